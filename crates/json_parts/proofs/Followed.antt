-- One text behind the other.
use Rattle.std.proofs.Common.{◌≡◌, ◌<◌, ◌+◌, ℕ, false, List, [], ◌∷◌, ◌++◌, map, length, drop, get_or, Option, Some, None, Result, Ok, Err, option_map, refl, sym, ap, ◌∙◌, append_assoc, append-nil}
use Rattle.std.specs.Str.{bytes_eq}
use Rattle.std.proofs.lemmas.Bool.{false_from_ne_true}
use Rattle.std.proofs.lemmas.List.{drop_more}
use Rattle.std.proofs.lemmas.Option.{same_Some}
use Rattle.std.proofs.lemmas.Slice.Eq.{bytes_eq-Decides}
use Rattle.serde_json.specs.Data.{Data, Items, no_items, item}
use Rattle.value_text.specs.declared.faults.ReadFault.{ReadFault}
use Rattle.value_text.specs.declared.faults.ReadFault.TheVariants as faults
use Rattle.value_text.specs.Reading.{Fails}
use Rattle.json_parts.specs.Lines.{piece, pieces, answer, answers}
use Rattle.json_parts.specs.Parts.{Adds, ◌followed_by◌}
use Rattle.json_parts.proofs.Elements.{nothing}

pub both_added : (first second : Option (List ℕ)) (old mid new : List ℕ) → option_map (λ x. old ++ x) first ≡ Some mid
    → option_map (λ x. mid ++ x) second ≡ Some new → option_map (λ x. old ++ x) (first followed_by second) ≡ Some new
both_added None second old mid new e f = absurd (cc e)
both_added (Some x) None old mid new e f = absurd (cc f)
both_added (Some x) (Some y) old mid new e f =
    ap Some (sym (append_assoc old x y) ∙ ap (λ s. s ++ y) (same_Some (old ++ x) mid e)) ∙ f

pub second_fails : (fault : ReadFault) (first second : Option (List ℕ)) → Fails fault second → Fails fault (first followed_by second)
second_fails faults.Memory first second fails = tt
second_fails faults.Form None second fails = refl
second_fails faults.Form (Some x) second fails = rw fails refl

pub first_fails : (fault : ReadFault) (first second : Option (List ℕ)) → Fails fault first → Fails fault (first followed_by second)
first_fails faults.Memory first second fails = tt
first_fails faults.Form first second fails = rw fails refl

pub then_adds : (first second : Option (List ℕ)) (result : Result (Unit {0}) ReadFault) (old mid new : List ℕ)
    → option_map (λ x. old ++ x) first ≡ Some mid → Adds second result mid new → Adds (first followed_by second) result old new
then_adds first second (Ok u) old mid new e adds = both_added first second old mid new e adds
then_adds first second (Err fault) old mid new e adds = second_fails fault first second adds

-- ---- loops that add one text behind the other

one_more : (first second : Option (List ℕ)) (out new : List ℕ) → option_map (λ x. out ++ x) first ≡ Some new
    → option_map (λ x. new ++ x) second ≡ option_map (λ x. out ++ x) (first followed_by second)
one_more None second out new e = absurd (cc e)
one_more (Some x) None out new e = refl
one_more (Some x) (Some y) out new e = ap Some (ap (λ s. s ++ y) (sym (same_Some (out ++ x) new e)) ∙ append_assoc out x y)

-- what isn't read leaves nothing to be read
no_more : (fault : ReadFault) (first second all : Option (List ℕ)) (out start : List ℕ) → Fails fault first
    → option_map (λ x. out ++ x) (first followed_by second) ≡ option_map (λ x. start ++ x) all → Fails fault all
no_more faults.Memory first second all out start fails same = tt
no_more faults.Form first second all out start fails same =
    let none : (first followed_by second) ≡ None = rw fails refl in
    nothing start all (sym (ap (option_map (λ x. out ++ x)) none) ∙ same)

pub piece_more : (d : Data) (p : List ℕ × List ℕ) (ps : List (List ℕ × List ℕ)) (out new : List ℕ) → option_map (λ x. out ++ x) (piece d p) ≡ Some new
    → option_map (λ x. new ++ x) (pieces d ps) ≡ option_map (λ x. out ++ x) (pieces d (p ∷ ps))
unfolding pieces
piece_more d p ps out new e = one_more (piece d p) (pieces d ps) out new e

pub no_piece_more : (fault : ReadFault) (d : Data) (p : List ℕ × List ℕ) (ps : List (List ℕ × List ℕ)) (out start : List ℕ) (all : Option (List ℕ))
    → Fails fault (piece d p) → option_map (λ x. out ++ x) (pieces d (p ∷ ps)) ≡ option_map (λ x. start ++ x) all → Fails fault all
unfolding pieces
no_piece_more fault d p ps out start all fails same = no_more fault (piece d p) (pieces d ps) all out start fails same

pub no_pieces : (d : Data) (out : List ℕ) (all : Option (List ℕ)) → option_map (λ x. out ++ x) (pieces d []) ≡ all → all ≡ Some out
unfolding pieces
no_pieces d out all same = sym same ∙ ap Some (append-nil out)

pub answer_more : (d : Data) (ds : Items) (out new : List ℕ) → option_map (λ x. out ++ x) (answer d) ≡ Some new
    → option_map (λ x. new ++ x) (answers ds) ≡ option_map (λ x. out ++ x) (answers (item d ds))
unfolding answers
answer_more d ds out new e = one_more (answer d) (answers ds) out new e

pub no_answer_more : (fault : ReadFault) (d : Data) (ds : Items) (out start : List ℕ) (all : Option (List ℕ))
    → Fails fault (answer d) → option_map (λ x. out ++ x) (answers (item d ds)) ≡ option_map (λ x. start ++ x) all → Fails fault all
unfolding answers
no_answer_more fault d ds out start all fails same = no_more fault (answer d) (answers ds) all out start fails same

pub no_answers : (out : List ℕ) (all : Option (List ℕ)) → option_map (λ x. out ++ x) (answers no_items) ≡ all → all ≡ Some out
unfolding answers
no_answers out all same = sym same ∙ ap Some (append-nil out)

-- the pieces from one on are it and those behind it
pub pieces_begin : {P : Type 0} (see : P → List ℕ × List ℕ) (ps : List P) (i : ℕ) (d : P) → i < length ps
    → map see (drop i ps) ≡ see (get_or ps i d) ∷ map see (drop (i + 1) ps)
pieces_begin see ps i d lt = ap (map see) (drop_more ps i d lt)

-- ---- words

pub differs : (word text : List ℕ) → (text ≡ word → ⊥) → bytes_eq word text ≡ false
differs word text other = false_from_ne_true (bytes_eq word text) (λ e. other (sym ((bytes_eq-Decides word text).0 e)))
