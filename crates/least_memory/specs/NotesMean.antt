-- States with a note have a meaning.
use Rattle.std.specs.Prelude.{◌↔◌, ℕ, ℤ, List, [], ◌∷◌, Option, Some, None}
use Rattle.std.specs.FinMap.{empty}
use Rattle.std.proofs.Common.{inl, sym, subst, ◌∙◌}
use Rattle.gil_values.specs.Pure.{PureValue}
use Rattle.least_memory.specs.Notes.{HasValue, terms_of_note, IsPlainNote, note_of, noted_stands, noted_terms, noted_plain, all_asked}
use Rattle.least_memory.specs.declared.noted.Noted.{Noted}
use Rattle.mem_model.specs.declared.keys.MemoryName.TheVariants.{Record}
use Rattle.mem_model.specs.Heaps.{IsHeapOf, OccursInHeap}
use Rattle.mem_model.proofs.Joins.{has_key}
use Rattle.mem_model.proofs.Parts.{no_key, empty_is_heap}
use Rattle.pure_terms.specs.Laws.{AgreeOn}
use Rattle.pure_terms.specs.Pure.{PureTerm, variables}
use Rattle.pure_terms.proofs.VariableLaws.{depend_on_variables}
use Rattle.sym_model.specs.Laws.{IsMeaning, AsksItsArguments}
use Rattle.sym_model.specs.Lists.{Each, IsAmong}
use Rattle.sym_model.specs.Plain.{IsPlainState}
use Rattle.sym_model.specs.Terms.{all_of}
use Rattle.sym_model.proofs.ListLaws.{each_to, each_is_among}

only : (P : PureTerm → Type 0) (t : PureTerm) → Each P (t ∷ []) → P t
only P t each = each.0

still_has : (v w : List PureValue) (note : Option PureTerm) → Each (λ t. AgreeOn (variables t) v w) (all_of (terms_of_note note)) → HasValue v note → HasValue w note
still_has v w None agree has = tt
still_has v w (Some t) agree (u, is) = (u, sym (depend_on_variables.values t v w (only (λ s. AgreeOn (variables s) v w) t agree)) ∙ is)

no_offsets : (note : Option PureTerm) → Each (λ t. IsAmong t (terms_of_note note).placed) (terms_of_note note).offsets
no_offsets None = tt
no_offsets (Some t) = tt

nothing_occurs : {X : Type 0} (n : ℕ) → OccursInHeap n empty → X
nothing_occurs n (k, (w, (holds, occurs))) = absurd (no_key k (has_key empty k w holds))

pub notes_mean : IsMeaning Record noted_stands noted_terms
notes_mean = record {
  local = λ s v w h agree stands. (stands.0, still_has v w (note_of s) agree stands.1);
  one_heap = λ s v g h first second. first.0 ∙ sym second.0;
  of_memory = λ s v h stands. subst (IsHeapOf Record) (sym stands.0) (empty_is_heap Record);
  symbols = λ s v h n stands occurs. nothing_occurs n (subst (OccursInHeap n) stands.0 occurs);
  offsets_placed = λ s. no_offsets (note_of s);
}

pub all_are_given : AsksItsArguments all_asked
all_are_given action args = (each_to (λ t. IsAmong t args) _ args (λ t among. inl among) (each_is_among args), tt)

plain_note : (note : Option PureTerm) (low high : ℤ) → IsPlainNote note low high ↔ IsPlainState Record (terms_of_note note) low high
plain_note None low high = (λ plain. record { plain = tt; described = tt }, λ is. tt)
plain_note (Some t) low high = (λ plain. record { plain = (plain, tt); described = tt }, λ is. is.plain.0)

pub notes_are_plain : (s : Noted) (low high : ℤ) → noted_plain s low high ↔ IsPlainState Record (noted_terms s) low high
notes_are_plain s low high = plain_note (note_of s) low high
