use Rattle.std.proofs.Common.{◌≡◌, ◌<◌, ◌^◌, length}
use Rattle.std.specs.Prelude.{IfSome}
use Rattle.std.specs.Option.{option_copied}
use Rattle.transcript.specs.Grammar.{pieces_of, words_of}
use Rattle.transcript.proofs.Reading.{pieces_before, bytes_in}
use Rattle.transcript.proofs.replies.read_pieces.Given as goal

abbrev pub invariant-loop-rest : goal.invariant-loop-rest
invariant-loop-rest l = record {
  read : pieces_before l.pieces.items (pieces_of (words_of (option_copied l.rest))) ≡ pieces_of (words_of (option_copied l.fn.words));
  short : IfSome l.rest (λ bytes. length bytes.now < 2 ^ 32);
}

abbrev pub decreases-loop-rest : goal.decreases-loop-rest
decreases-loop-rest l = bytes_in (option_copied l.rest)
