-- `view_mut` borrows the bytes, and the frame follows them.
use mathlib.Core.Path.{◌≡◌, refl, sym, ap, subst, ◌∙◌}
use Prim.Native.Nat.{ℕ, ◌*◌, ◌<◌, ◌^◌}
use mathlib.Core.List.{List, [], ◌∷◌}
use lib.ListN.{length}
use seplogic.Ra.Ura.{Ura}
use mir.Syntax.{named}
use mir.Val.{Val, vptr}
use mir.Raw.{raw as bare}
use base.Fraction.{full_share}
use base.Logic.{ent, sep, id⊢, fst∗, never}
use base.Fml.{Fml, GName, ftrue, feq, fsep, flft}
use contract.Running.{tables}
use types.Logic.{Logic, sem}
use types.SemTy.{cells}
use types.Kit.{at_ret, ‵, ◌⊛◌, some, later, ◌$◌, ◌∵◌, !, qed, move, keep, use1, split, split3, join, fsplit, fsplit3, fjoin, fpack, feq_i, feq_l, pick, await, group, rewrite, raw, suffices, frame, done}
use types.Part.{whole, sub, look_in, agg}
use types.Run.{stop, fld, load, no_more, and_then, of_opd, addr, first, blocks, exec, returns, enter}
use types.ByLocal.{alloc_all, pass_all, free_all, look_at, get, through, sets, sets_last, env}
use denote.Array.{Array}
use denote.ArrayMemory.{Array-apart, Array-whole}
use denote.Builtin.{u8}
use denote.Exit.{no}
use denote.Follow.{follows}
use denote.FollowSlice.{Elements, lends_Elements}
use denote.Index.{row, whole_in, whole_out}
use denote.Laws.{shows}
use denote.RattleType.{RattleType, owns}
use denote.Memory.{mem, cell_at, lone, part_at, part_of}
use denote.Slice.{MutSlice, Room, slice_val}
use denote.RawPtr.{Ptr, block_ptr, null_ptr, in_a_block}
use denote.Ref.{MutBor, MutRef, mut_vals, mut_Tells}
use denote.Signature.{plain, mut_ref_to}
use denote.Steps.{nothing, opens, peeks}
use denote.Triple.Walked.{Stays, stay_dropped, walk_of, ends_at, Goes-spent_ref}
use Rattle.std.proofs.Common.{lit<, arith}
use Rattle.core.proofs.mem.Facts.{says_two}
use Rattle.std.proofs.raw_atomic.Walks.{proved}
use Rattle.std_alloc.proofs.VecSteps.Shapes.{after}
use Rattle.std_alloc.specs.Box.Ownership.{box_owns}
use Rattle.page_memory.specs.Tokens.{may_free}
use Rattle.page_memory.specs.Lending.{with_bytes}
use Rattle.page_memory.specs.declared.frames.Frame.{Frame}
use Rattle.page_memory.specs.contracts.frames.Frame as C
use Rattle.page_memory.proofs.frames.Frame.TheLaws.{lowers}
use Rattle.page_memory.proofs.Raw.{Words, fields, big_lit}
use Rattle.page_memory.specs.contracts.frames.Frame.view_mut as f
use Rattle.page_memory.proofs.frames.Frame.view_mut.Statement.{statement}
use Rattle.page_memory.proofs.frames.Frame.view_mut.Code as code

abbrev R : RattleType
R = C.the_row

abbrev T : RattleType
T = Array u8 4096

abbrev stayed : Stays f.ended.signature.params f.ended.kept
stayed = (stay_dropped (mut_ref_to (0 ∷ []) tt (plain (λ _. R))) no, tt)

module _ {M : Type 1} {𝓤 : Ura M} (𝓛 : Logic 𝓤) (h : Frame) (us : List Val) (rb ro b o : ℕ) where
  -- all of the frame but its bytes
  abbrev Rest : Fml
  Rest = fsep (may_free h.alloc (bare (lone T.mir)) (block_ptr b o)) (fsep (Words.own_val (fields h) us) (cell_at full_share R.mir us rb ro))

  back : h.at ≡ block_ptr b o → length h.bytes ≡ 4096 → (ws : List ℕ) → length ws ≡ length h.bytes
      → ent 𝓤 (sep 𝓤 (sem 𝓛 (cells (mem u8) ws b o)) (sem 𝓛 Rest)) (sem 𝓛 ((mem R).own_at (with_bytes h ws) rb ro))
  unfolding part_of
  back e full ws l =
      qed 𝓛 (‵ (cells (mem u8) ws b o) ∷ ‵ Rest ∷ []) ∵
      use1 𝓛 (‵ (row u8 full_share ws b o)) (whole_out 𝓛 u8 ws b o) $ feq_i ! ℕ (length ws) 4096 (l ∙ full) $ fjoin ! $
      use1 𝓛 (‵ (part_at T full_share ws b o)) (Array-whole 𝓛 u8 full_share 4096 ws b o) $
      move ! (1 ∷ []) $ fsplit3 ! $ move ! (3 ∷ 0 ∷ []) $ fjoin ! $ rewrite ! 0 (λ (p : Ptr). ‵ (box_owns (may_free h.alloc) T p ws)) (sym e) refl $
      move ! (1 ∷ 0 ∷ []) $ fjoin ! $ move ! (1 ∷ 0 ∷ []) $ fjoin ! $
      fpack ! (List Val) (λ vs. fsep (cell_at full_share R.mir vs rb ro) (R.own_val (with_bytes h ws) vs)) us $ done !

pub view_mut_spec : {M : Type 1} → statement M
view_mut_spec 𝓤 𝓛 𝓜 𝓡 wired =
    let c = f.clauses 𝓛 𝓜.mem 𝓡.returns in
    let W = walk_of 𝓛 f.ended stayed c in
    let 𝓣 = tables 𝓤 𝓛.H 𝓜 𝓡 𝓡.env in
    proved 𝓛 f.ended stayed c 𝓜 𝓡 (Goes-spent_ref 𝓛 1 (0 ∷ []) tt (plain (λ _. R)), tt)
    f.Key.name code.function (code.unfolded 𝓤 𝓛.H 𝓜 𝓡 wired)
    (λ κs. (mut_vals, tt)) (λ κs. (mut_Tells (named 0) κs.0 R, tt)) (λ κs qs bounds a _ are.
    let κ = κs.0 in let q = qs.0 in let rb = a.0.ref_ptr.0 in let ro = a.0.ref_ptr.1 in let γ = a.0.ghost_name in let h = a.0.now in
    let y : W.Ghost = ((κs, qs, bounds, a, (vptr rb ro ∷ [], tt)), tt) in
    qed 𝓛 (((‵ (flft κ q) ⊛ ‵ ftrue) ⊛ ‵ (owns (MutRef (named 0) κ R ∷ []) (a.0, tt) (vptr rb ro ∷ [], tt))) ∷ ‵ ftrue ∷ []) ∵
    split ! $ split ! $ move ! (2 ∷ []) $ fsplit ! $ keep ! (0 ∷ 2 ∷ []) $
    -- [the `&mut`; the token]
    enter ! _ _ _ _ _ $ alloc_all ! (λ l. pass_all ! refl ((tt, tt), tt) $
    fsplit3 ! $ move ! (1 ∷ 2 ∷ 3 ∷ []) $ opens ! tt R rb ro (λ us.
    move ! (1 ∷ []) $ peeks ! R _ (shows 𝓛 R) h us (λ is. fsplit ! $ move ! (1 ∷ []) $
    in_a_block ! h.at (λ p. box_owns (may_free h.alloc) T p h.bytes) (fst∗ 𝓤 (never 𝓤) (sem 𝓛 (may_free h.alloc (bare (lone T.mir)) null_ptr))) (λ b o e.
    fsplit ! $ use1 𝓛 (‵ (fsep (feq ℕ (length h.bytes) 4096) (row u8 full_share h.bytes b o))) (Array-apart 𝓛 u8 full_share tt 4096 h.bytes b o) $ fsplit ! $ feq_l ! (λ full.
    use1 𝓛 (‵ (cells (mem u8) h.bytes b o)) (whole_in 𝓛 u8 h.bytes b o) $
    -- [the bytes; the right to free them; what the fields own; the fields; the open borrow, in three entries]
    let word = lowers.val_is h us is ∙ ap (λ (p : Ptr). lowers.lowered (record h { at = p }) ∷ []) e in
    let Cell = λ (ws : List Val). ‵ (cell_at full_share R.mir ws rb ro) in
    rewrite ! 3 Cell word refl $
    first ! $ blocks ! $
    sets ! (of_opd ! (load ! (through ! refl (fld ! refl (stop !))) (look_in ! 3 (sub ! 0 refl (whole !))))) refl (tt, tt) $
    sets ! (addr ! (through ! refl (stop !))) refl (tt, tt) $
    sets_last ! (agg ! (and_then ! (get ! refl) (and_then ! (big_lit ! (record { fits = lit< tt })) (no_more !)))) refl (tt, (tt, (record { fits = lit< tt }, tt))) $
    exec ! 𝓣.C 𝓣.Λ (env code.Mir.locals l) (after 1 (code.function).body) (at_ret _ (W.post y)) $
    sets ! (of_opd ! (get ! refl)) refl (tt, (tt, (record { fits = lit< tt }, tt))) $
    rewrite ! 3 Cell (sym word) refl $
    move ! (2 ∷ 3 ∷ []) $ fjoin ! $ move ! (2 ∷ 0 ∷ []) $ fjoin ! $ move ! (2 ∷ 3 ∷ 4 ∷ 1 ∷ 0 ∷ []) $ group ! 5 $
    let room : Room u8 (length h.bytes) = (subst (λ (n : ℕ). n < 2 ^ 64) (sym full) (omega arith), subst (λ (n : ℕ). n * 1 < 2 ^ 63) (sym full) (omega arith)) in
    use1 𝓛 (later (some (λ (γ' : GName). raw (Elements 𝓛 R u8 (with_bytes h) (named 0) κ q rb ro b o γ h.bytes room (sem 𝓛 (Rest 𝓛 h us rb ro b o)) (back 𝓛 h us rb ro b o e full) γ'))))
    (lends_Elements 𝓛 R u8 (with_bytes h) (named 0) κ q rb ro b o γ h.bytes room (sem 𝓛 (Rest 𝓛 h us rb ro b o)) (back 𝓛 h us rb ro b o e full) (R.coded.code h) (R.coded.code h)) $ await ! tt $ pick ! (λ γ'.
    returns ! (look_at ! 0 refl) $ free_all ! refl $ keep ! (0 ∷ []) $
    let lent : MutBor (List ℕ) = record { ref_ptr = (b, o); ghost_name = γ'; now = h.bytes } in
    use1 𝓛 (‵ ((MutSlice (named 0) κ u8).own_val lent (slice_val (b, o) (length h.bytes) ∷ [])) ⊛ ‵ (flft κ q) ⊛ ‵ (follows R (Array u8 0) γ γ' (with_bytes h))) (id⊢ 𝓤 _) $ split3 ! $
    rewrite ! 0 (λ (n : ℕ). ‵ ((MutSlice (named 0) κ u8).own_val lent (slice_val (b, o) n ∷ []))) full refl $
    suffices ! _ (ends_at 𝓛 f.ended stayed c y (slice_val (b, o) 4096) lent (tt, tt) (tt, tt)) $
    nothing ! $ nothing ! $ fjoin ! $ join ! $ nothing ! $ move ! (2 ∷ 0 ∷ []) $ join ! $ join ! $ frame ! $ says_two ! (refl, full) $ done !)))))))
