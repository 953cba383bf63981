-- The next piece is the next value.
use Rattle.std.proofs.Common.{◌≡◌, ◌+◌, ◌<◌, [], ◌∷◌, ◌++◌, length, take, drop, append_assoc, subst, sym, ap, ◌∙◌}
use Rattle.gil_values.specs.View.{value_view, values_view}
use Rattle.gillian_words.specs.declared.scan.Scan.TheVariants.{Outside}
use Rattle.gillian_words.specs.Inputs.{SpellsInput, SpellsInputs, SpellsSome}
use Rattle.gillian_words.specs.Pieces.{piece_len}
use Rattle.gillian_words.proofs.Scans.{first_spelled, one_more_spelled, another_spelled}
use Rattle.gillian_words.proofs.inputs.inputs_of.Goals as goal

pub returns-in-None-clause-none : goal.returns-in-None-clause-none
returns-in-None-clause-none c = λ vs spelled.
    let next = c.pieces.invariant.left vs spelled in
    let first : SpellsInput (take (piece_len Outside c.pieces.rest.now) c.pieces.rest.now) next.0 = first_spelled c.pieces.rest.now next.0 next.1.0 next.1.1 in
    let none = rw c.in-None.is at c.in_ok-value.ensures.none in
    none next.0 (rw c.piece_len-len.ensures.len first)

pub pieces-preserved : goal.pieces-preserved
pieces-preserved c =
    let rest = c.pieces.rest.now in
    let behind_is : c.behind-rest.result.now ≡ drop (piece_len Outside rest + 1) rest = c.behind-rest.ensures ∙ ap (λ n. drop (n + 1) rest) c.piece_len-len.ensures.len in
    let lt : piece_len Outside rest < length rest = subst (λ n. n < length rest) c.piece_len-len.ensures.len c.if-rest-len.false in
    record {
      spelled = λ v vs some.
          let read = rw c.in-Some.is at c.in_ok-value.ensures.some in
          let first : SpellsInput (take (piece_len Outside rest) rest) (value_view c.in-Some.value) = subst (λ n. SpellsInput (take n rest) (value_view c.in-Some.value)) c.piece_len-len.ensures.len read in
          let more : SpellsSome (drop (piece_len Outside rest + 1) rest) v vs = subst (λ text. SpellsSome text v vs) behind_is some in
          let all = c.pieces.invariant.spelled (value_view c.in-Some.value) (v ∷ vs) (one_more_spelled rest (value_view c.in-Some.value) v vs lt first more) in
          subst (λ values. SpellsInputs c.args.word.now values) (sym (append_assoc (values_view c.pieces.values) (value_view c.in-Some.value ∷ []) (v ∷ vs)) ∙ ap (λ values. values ++ v ∷ vs) (sym c.in_ok-push-in-Some.ensures.ok)) all;
      left = λ vs spelled.
          let next = c.pieces.invariant.left vs spelled in
          let another = another_spelled rest next.0 next.1.0 lt next.1.1 in
          (another.0, (another.1.0, subst (λ text. SpellsSome text another.0 another.1.0) (sym behind_is) another.1.1));
    }
