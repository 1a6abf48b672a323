-- `zeroed` takes the box of zeros apart.
use mathlib.Core.Path.{◌≡◌, refl, ap, subst, ◌∙◌}
use mathlib.Core.List.{List, [], ◌∷◌}
use mir.Syntax.{Dict, Body, impl, tcons, tnil, dnil}
use mir.Val.{Val, vptr, vcons, vnil, of_list}
use Rattle.core.proofs.alloc.AllocError.TheLaws as refused_laws
use mir.Raw.{raw as bare}
use base.Fraction.{full_share}
use base.Logic.{emp, id⊢, fst∗, never}
use base.Fml.{ftrue, flft}
use contract.BorrowLft.{◌⊑◌, ⊑_static}
use contract.Monad.{fact, fact_i}
use contract.Running.{tables}
use prog.Wp.{Wp, after_seq, at_return}
use types.Logic.{sem}
use types.Kit.{Post as After, any_q, at_ret, ‵, ◌⊛◌, some, later, ◌$◌, ◌∵◌, !, qed, move, keep, use0, use1, drop, split, join, fjoin, fpack, feq_i, feq_l, pick, await, rewrite, raw, suffices, done}
use types.Match.{live, vrt, in_variant}
use types.Part.{whole, agg}
use types.Run.{stop, fld, no_more, and_then, of_opd, lit, first, switches_on, exec, returns, enter}
use types.ByLocal.{alloc_all, pass_all, free_all, look_at, get, get_in, get_tag, sets, sets_last, lands_as, env}
use types.Tokens.{lft_new}
use denote.Array.{Array}
use denote.Builtin.{u8}
use denote.Exit.{yes, no}
use denote.Param.{layout, arg}
use denote.Param.NoDrop
use denote.Param.Laws.{Laws, array_laws, arg_laws, of_field}
use denote.Param.Shared.{copy_shared}
use denote.Struct.Field.{u8-field}
use denote.Struct.Laws as LL
use denote.Struct.Owning.{shape, to}
use denote.Struct.Struct.{within}
use denote.RattleType.{RattleType, Valss, owns}
use denote.Memory.{lone}
use denote.RawPtr.{Ptr, RawPtr, block_ptr, null_ptr, ptr_val, in_a_block}
use denote.Laws.{shows}
use denote.Signature.{plain}
use denote.Steps.{nothing, only, owned, peeks, heard}
use denote.Triple.Call.{calls_at}
use denote.Triple.Clauses.{Lasts, lasts}
use denote.Triple.Spec.{triple_of}
use denote.Triple.Walked.{Stays, stay_dropped, walk_of, says, ends_at, Goes-dropped}
use Rattle.core.proofs.atomic.Steps.{fm}
use Rattle.core.proofs.cell.Inside.{Good}
use Rattle.core.specs.contracts.result.Result as RS
use Rattle.core.specs.contracts.alloc.AllocError as refused
use Rattle.core.specs.declared.result.Result.TheVariants.{Ok, Err}
use Rattle.std.specs.Prelude.{IfOk, replicate}
use Rattle.std.proofs.raw_atomic.Walks.{proved}
use Rattle.std_alloc.proofs.BoxSteps.Form as box
use Rattle.std_alloc.proofs.BoxSteps.Steps.{box_out, box_in}
use Rattle.std_alloc.proofs.RcSteps.{first_Good, some_Good}
use Rattle.std_alloc.proofs.ResultValues.{ok_of, err_of}
use Rattle.std_alloc.proofs.VecSteps.Shapes.{after, head, arm_body}
use Rattle.std_alloc.specs.Box.Ownership.{box_owns}
use Rattle.std_alloc.specs.contracts.boxed.Box.into_raw as callee
use Rattle.std_alloc.proofs.boxed.Box.into_raw.Met as callee_met
use Rattle.std_heap.specs.contracts.Global as heap
use Rattle.std_heap.specs.contracts.GlobalAllocator.TheImpl as impl'
use Rattle.std_heap.proofs.GlobalAllocator.TheImpl.Met as impl_met
use Rattle.std_heap.proofs.Global.TheLaws as global
use Rattle.page_memory.specs.Tokens.{may_free}
use Rattle.page_memory.specs.declared.frames.Frame.{Frame}
use Rattle.page_memory.specs.contracts.frames.Frame as C
use Rattle.page_memory.proofs.frames.Frame.TheLaws as laws
use Rattle.page_memory.proofs.Raw.{result_tells}
use Rattle.page_memory.proofs.frames.zeros.Met as zeros_met
use Rattle.page_memory.specs.contracts.frames.zeros as zeros
use Rattle.page_memory.specs.contracts.frames.Frame.zeroed as f
use Rattle.page_memory.proofs.frames.Frame.zeroed.Statement.{statement}
use Rattle.page_memory.proofs.frames.Frame.zeroed.Code as code

abbrev R : RattleType
R = C.the_row

abbrev T : RattleType
T = Array u8 4096

abbrev G : RattleType
G = arg (bare (layout heap.the_row)) no heap.the_row

G_laws : Laws G
G_laws = arg_laws (bare (layout heap.the_row)) no heap.the_row global.the_row_laws refl

T_laws : Laws T
T_laws = array_laws u8 (of_field u8-field LL.u8-laws refl (copy_shared u8-field LL.u8-copy)) 4096

abbrev dd : Dict
dd = impl ("page_memory::Destruct++none::drop" ∷ []) (tcons (layout G) tnil) dnil

abbrev dt : Dict
dt = impl ("page_memory::Destruct++none::drop" ∷ []) (tcons (layout T) tnil) dnil

abbrev E : box.Bx
E = record { row = T; laws = T_laws; al = record { row = G; laws = G_laws; g = impl'.ghosts; d = impl'.dict; drops = dd } }

abbrev B : RattleType
B = box.B E

abbrev Er : RattleType
Er = refused.the_row

abbrev stayed : Stays f.ended.signature.params f.ended.kept
stayed = (stay_dropped (plain (λ _. heap.the_row)) yes, tt)

pub zeroed_spec : {M : Type 1} → statement M
unfolding Rattle.page_memory.proofs.Destruct++none.drop.Code.code
zeroed_spec {M} 𝓤 𝓛 𝓜 𝓡 wired =
    let c = f.clauses 𝓛 𝓜.mem 𝓡.returns in
    let W = walk_of 𝓛 f.ended stayed c in
    let 𝓣 = tables 𝓤 𝓛.H 𝓜 𝓡 𝓡.env in
    let Z = triple_of 𝓛 zeros.signature (zeros.spec 𝓛 𝓜.mem 𝓡.returns) in
    let k = triple_of 𝓛 (callee.signature T G impl'.ghosts impl'.dict dd dt) (callee.spec T G impl'.ghosts impl'.dict dd dt 𝓛 𝓜.mem 𝓡.returns) in
    let known = callee_met.met 𝓤 𝓛 𝓜 𝓡 (code.calls-std_alloc::boxed::Box::into_raw 𝓡.env wired) T G T_laws G_laws impl'.ghosts impl'.dict dd dt
    (impl_met.passed 𝓡.env (code.calls-std_heap::GlobalAllocator::allocate 𝓡.env wired) (code.calls-std_heap::GlobalAllocator::deallocate 𝓡.env wired) (code.calls-std_heap::GlobalAllocator::grow 𝓡.env wired) (code.calls-std_heap::GlobalAllocator::shrink 𝓡.env wired) M 𝓤 𝓛 𝓜 𝓡)
    (NoDrop.glues "page_memory::Destruct++none::drop" 𝓡.env (code.calls-page_memory::Destruct++none::drop 𝓡.env wired) G G_laws M 𝓤 𝓛 𝓜 𝓡)
    (NoDrop.glues "page_memory::Destruct++none::drop" 𝓡.env (code.calls-page_memory::Destruct++none::drop 𝓡.env wired) T T_laws M 𝓤 𝓛 𝓜 𝓡) in
    proved 𝓛 f.ended stayed c 𝓜 𝓡 (Goes-dropped 𝓛 0 (plain (λ _. heap.the_row)) yes (λ κs x w. refl), tt)
    f.Key.name code.function (code.unfolded 𝓤 𝓛.H 𝓜 𝓡 wired)
    (λ κs. ((λ g. global.lowered g ∷ []), tt)) (λ κs. (global.lowers.val_is, tt)) (λ κs qs bounds a _ are.
    let g = a.0 in let gv : Val = global.lowered g in
    let y : W.Ghost = ((κs, qs, bounds, a, (gv ∷ [], tt)), tt) in
    let z : Z.Ghost = ((tt, tt, tt, (g, tt), (gv ∷ [], tt)), tt) in
    qed 𝓛 ((‵ ftrue ⊛ ‵ (owns (heap.the_row ∷ []) (g, tt) (gv ∷ [], tt))) ∷ ‵ ftrue ∷ []) ∵
    enter ! _ _ _ _ _ $ alloc_all ! (λ l. pass_all ! refl ((tt, ((tt, tt), tt)), tt) $
    join ! $ use1 𝓛 (raw (Z.pre z)) (id⊢ 𝓤 _) $
    calls_at ! (fm 𝓛 𝓜 𝓡) Z (zeros_met.met 𝓤 𝓛 𝓜 𝓡 (code.calls-page_memory::frames::zeros 𝓡.env wired)) z (and_then ! (get ! refl) (no_more !)) (λ v.
    use1 𝓛 (later (some (λ (r : (RS.the_row B Er).Denot). (‵ ftrue ⊛ ‵ ((RS.the_row B Er).own_val r (v ∷ []))) ⊛ some (λ (ws : Lasts zeros.ended tt (g, tt)). ‵ (lasts zeros.ended tt (g, tt) ws)
    ⊛ raw (fact 𝓤 (IfOk r (λ b. b.value ≡ replicate 4096 0))))))) (id⊢ 𝓤 _) $
    await ! tt $ pick ! (λ r. split ! $ move ! (1 ∷ []) $ pick ! (λ ws. split ! $ drop ! $ heard ! (IfOk r (λ b. b.value ≡ replicate 4096 0)) (λ reported. split ! $ drop ! $
    let En = env (code.function).locals l in
    let both : Body = head (after 1 (code.function).body) in
    let Then : After 𝓤 𝓛.H = any_q (after_seq 𝓤 𝓛.H (Wp 𝓤 𝓛.H 𝓣.C 𝓣.Λ En (after 2 (code.function).body) (at_return 𝓤 𝓛.H En (W.post y))) (at_return 𝓤 𝓛.H En (W.post y))) in
    result_tells B Er ! r v
    (λ b us er ev. box_out E ! b us (λ bb bo hv e ws fits. box_in E ! b bb bo b.value e refl $
    let w : Val = box.word E hv bb bo in
    let good : Good (layout B) w = box.box_typed E hv bb bo fits in
    lands_as ! (ev ∙ ap (λ (vs : List Val). live 0 (of_list vs)) ws) refl (first_Good (layout B) w good) $
    first ! $ switches_on ! (get_tag ! (vrt ! refl (fld ! refl (stop !))) (whole !)) $ exec ! 𝓣.C 𝓣.Λ En (arm_body 0 both) Then $
    sets ! (of_opd ! (get_in ! (vrt ! refl (fld ! refl (stop !))) (in_variant ! 0 0 refl refl (whole !)))) refl good $
    sets ! (of_opd ! (get ! refl)) refl good $
    lft_new ! tt (λ β. lft_new ! tt (λ α.
    let inT = (α ∷ []) ⊑ T.lives in let inG = (β ∷ []) ⊑ G.lives in
    let toks = ‵ (flft (α ∷ []) full_share) ⊛ ‵ (flft (β ∷ []) full_share) ⊛ ‵ ftrue in
    let x : k.Ghost = (((α ∷ [], (β ∷ [], tt)), (full_share, (full_share, tt)), tt, (b, tt), (w ∷ [], tt)), tt) in
    let ended = callee.ended T G impl'.ghosts impl'.dict dd dt in
    -- [the two tokens; the box]
    move ! (2 ∷ []) $ nothing ! $ move ! (1 ∷ 0 ∷ []) $ fjoin ! $ nothing ! $ move ! (3 ∷ 0 ∷ []) $ join ! $ move ! (2 ∷ 0 ∷ []) $ join ! $ join ! $
    nothing ! $ use0 𝓛 (raw (fact 𝓤 inG)) (fact_i 𝓤 inG (emp 𝓤) (⊑_static (β ∷ []))) $ join ! $ use0 𝓛 (raw (fact 𝓤 inT)) (fact_i 𝓤 inT (emp 𝓤) (⊑_static (α ∷ []))) $ join ! $
    move ! (1 ∷ 0 ∷ []) $ join ! $ use1 𝓛 (raw (k.pre x)) (id⊢ 𝓤 _) $
    calls_at ! (fm 𝓛 𝓜 𝓡) k known x (and_then ! (get ! refl) (no_more !)) (λ u.
    use1 𝓛 (later (some (λ (p : Ptr). (toks ⊛ ‵ (RawPtr.own_val p (u ∷ []))) ⊛ some (λ (ls : Lasts ended x.0.0 x.0.3). ‵ (lasts ended x.0.0 x.0.3 ls) ⊛ ‵ (box_owns (may_free g) T p b.value))))) (id⊢ 𝓤 _) $
    await ! tt $ pick ! (λ p. split ! $ split ! $ drop ! $ feq_l ! (λ eu. pick ! (λ ls. split ! $ drop ! $
    in_a_block ! p (λ p'. box_owns (may_free g) T p' b.value) (fst∗ 𝓤 (never 𝓤) (sem 𝓛 (may_free g (bare (lone T.mir)) null_ptr))) (λ fb fo ep.
    let new : Frame = record { at = block_ptr fb fo; alloc = g; bytes = b.value } in
    let fw : Val = laws.lowered new in
    let fgood : Good (layout R) fw = (tt, (tt, (((tt, tt), tt), tt))) in
    let out : Val = live 0 (vcons fw vnil) in
    lands_as ! (ap only eu ∙ ap ptr_val ep) refl (tt, tt) $ sets ! (of_opd ! (get ! refl)) refl (tt, tt) $
    sets ! (agg ! (and_then ! (get ! refl) (and_then ! (get ! refl) (no_more !)))) refl fgood $
    sets_last ! (agg ! (and_then ! (lit ! tt) (and_then ! (get ! refl) (no_more !)))) refl (first_Good (layout R) fw fgood) $
    exec ! 𝓣.C 𝓣.Λ En (after 2 (code.function).body) (at_ret En (W.post y)) $ sets ! (of_opd ! (get ! refl)) refl (first_Good (layout R) fw fgood) $
    nothing ! $ owned ! heap.the_row _ (LL.makes heap.the_type global.the_plain 𝓛) g (gv ∷ []) are.0 $ fjoin ! $
    feq_i ! (List Val) (vptr fb fo ∷ []) (vptr fb fo ∷ []) refl $ fjoin ! $ feq_i ! (List Val) (fw ∷ []) (fw ∷ []) refl $ fjoin ! $
    fpack ! (Valss (RawPtr ∷ heap.the_row ∷ [])) (within (shape C.the_type) (to C.the_type new) (fw ∷ [])) (vptr fb fo ∷ [], (gv ∷ [], tt)) $ fjoin ! $
    use1 𝓛 (‵ ((RS.the_row R Er).own_val (Ok new) (out ∷ []))) (ok_of 𝓛 R Er new fw) $
    returns ! (look_at ! 0 refl) $ free_all ! refl $ keep ! (0 ∷ []) $
    suffices ! _ (ends_at 𝓛 f.ended stayed c y out (Ok new) (tt, tt) (tt, tt)) $ says ! (subst (λ (r : (RS.the_row B Er).Denot). IfOk r (λ b. b.value ≡ replicate 4096 0)) er reported) $
    nothing ! $ nothing ! $ join ! $ join ! $ nothing ! $ join ! $ done !)))))))))
    (λ e us er ev. peeks ! Er _ (shows 𝓛 Er) e us (λ is.
    let ew : Val = refused_laws.lowered e in
    let is_ew : us ≡ ew ∷ [] = refused_laws.lowers.val_is e us is in
    let out : Val = live 1 (vcons ew vnil) in
    rewrite ! 0 (λ (vs : List Val). ‵ (Er.own_val e vs)) is_ew refl $
    lands_as ! (ev ∙ ap (λ (vs : List Val). live 1 (of_list vs)) is_ew) refl (some_Good (layout Er) ew (tt, tt)) $
    first ! $ switches_on ! (get_tag ! (vrt ! refl (fld ! refl (stop !))) (whole !)) $ exec ! 𝓣.C 𝓣.Λ En (arm_body 1 both) Then $
    sets ! (of_opd ! (get_in ! (vrt ! refl (fld ! refl (stop !))) (in_variant ! 1 0 refl refl (whole !)))) refl (tt, tt) $
    sets_last ! (agg ! (and_then ! (lit ! tt) (and_then ! (get ! refl) (no_more !)))) refl (some_Good (layout Er) ew (tt, tt)) $
    exec ! 𝓣.C 𝓣.Λ En (after 2 (code.function).body) (at_ret En (W.post y)) $ sets ! (of_opd ! (get ! refl)) refl (some_Good (layout Er) ew (tt, tt)) $
    use1 𝓛 (‵ ((RS.the_row R Er).own_val (Err e) (out ∷ []))) (err_of 𝓛 R Er e ew) $
    returns ! (look_at ! 0 refl) $ free_all ! refl $ keep ! (0 ∷ []) $
    suffices ! _ (ends_at 𝓛 f.ended stayed c y out (Err e) (tt, tt) (tt, tt)) $ says ! tt $
    nothing ! $ nothing ! $ join ! $ join ! $ nothing ! $ join ! $ done !))))))))
