-- What clap finds is what its definitions match, and it refuses exactly the words that have a fault.
use Rattle.std.proofs.Common.{◌≡◌, ◌∙◌, ap, ap₂, refl, true, sym, map, codes, string_bytes, ℕ, List, Option, ⊎_elim}
use Rattle.clap.specs.Words.{app_of, fault_of, first_of, first_value, found_of, rows_of, is_simple, is_simple_and_free, matches_of}
use Rattle.clap.proofs.WalkLemmas.{first_value-rows}
use Rattle.clap.proofs.OnLiterals.{clap_on_literals}
use Rattle.gillian_words.specs.Asked.{Given}
use Rattle.gillian_words.specs.Line.{line, spelled, matched, AreTaken}
use Rattle.gillian_words.proofs.line.match_words.Goals as goal

line-free : is_simple_and_free line ≡ true
unfolding clap_on_literals
line-free = refl

line-simple : is_simple line ≡ true
unfolding clap_on_literals
line-simple = refl

-- what is given, by the values of names
abbrev by_names : (List ℕ → Option (List ℕ)) → Given
by_names value = record {
  mode = value (codes "mode");
  second = value (codes "second");
  bound = value (codes "bound");
  entry = value (codes "entry");
  inputs = value (codes "inputs");
  json = value (codes "json");
}

same_given : (f g : List ℕ → Option (List ℕ)) → ((id : List ℕ) → f id ≡ g id) → by_names f ≡ by_names g
same_given f g same = rw (same (codes "mode"), same (codes "second"), same (codes "bound"), same (codes "entry"), same (codes "inputs"), same (codes "json")) refl

pub returns-in-Ok-clause-some : goal.returns-in-Ok-clause-some
returns-in-Ok-clause-some c =
    let words_are : map string_bytes c.as_slice.result.now ≡ spelled c.args.words.now = ap (map string_bytes) c.as_slice.ensures.value in
    let line_is : app_of c.in_ok-command.command ≡ line = c.in_ok-command.ensures in
    let taken : AreTaken (spelled c.args.words.now) = sym (ap₂ fault_of line_is words_are) ∙ c.in-Ok.ensures.kinds (ap is_simple_and_free line_is ∙ line-free) in
    let rows : rows_of (found_of c.in-Ok.matches) ≡ matches_of line (spelled c.args.words.now) = (c.in-Ok.ensures.matches (ap is_simple line_is ∙ line-simple)).0 ∙ ap₂ matches_of line_is words_are in
    let same : (id : List ℕ) → first_value (found_of c.in-Ok.matches) id ≡ matched (spelled c.args.words.now) id = λ id. first_value-rows (found_of c.in-Ok.matches) id ∙ ap (first_of id) rows in
    (taken, c.values_of.ensures ∙ same_given (first_value (found_of c.in-Ok.matches)) (matched (spelled c.args.words.now)) same)

pub returns : goal.returns
returns c = record {
  some = tt;
  none = λ taken.
      let words_are : map string_bytes c.as_slice.result.now ≡ spelled c.args.words.now = ap (map string_bytes) c.as_slice.ensures.value in
      let line_is : app_of c.in_ok-command.command ≡ line = c.in_ok-command.ensures in
      let h = c.in-Err.ensures.kinds (ap is_simple_and_free line_is ∙ line-free) in
      ⊎_elim (λ memory. c.in_default.not-OutOfMemory (c.kind.ensures ∙ memory)) (λ among. among) (rw (ap₂ fault_of line_is words_are ∙ taken) at h);
}
