-- States with a note.
use Rattle.std.specs.Prelude.{◌≡◌, ℕ, ℤ, List, [], ◌∷◌, Option, Some, None, ⊤}
use Rattle.std.specs.FinMap.{empty}
use Rattle.std.specs.Option.{option_map}
use Rattle.gil_values.specs.Pure.{PureValue}
use Rattle.least_memory.specs.declared.noted.Noted.{Noted}
use Rattle.mem_model.specs.Heaps.{Heap}
use Rattle.pure_terms.specs.Meaning.{value}
use Rattle.pure_terms.specs.Pure.{PureTerm}
use Rattle.pure_terms.specs.View.{term_view}
use Rattle.sym_model.specs.Laws.{IsPlainWithin}
use Rattle.sym_model.specs.Terms.{StateTerms, no_state_terms}

abbrev pub note_of : Noted → Option PureTerm
note_of s = option_map term_view s.note

abbrev pub HasValue : List PureValue → Option PureTerm → Type 0
HasValue v None = ⊤
HasValue v (Some t) = (w : PureValue) × (value v t ≡ Some w)

abbrev pub terms_of_note : Option PureTerm → StateTerms
terms_of_note None = no_state_terms
terms_of_note (Some t) = record { placed = []; described = []; held = t ∷ []; offsets = []; located = [] }

abbrev pub IsPlainNote : Option PureTerm → ℤ → ℤ → Type 0
IsPlainNote None low high = ⊤
IsPlainNote (Some t) low high = IsPlainWithin low high t

-- the state has the empty heap, where its note has a value
abbrev pub noted_stands : Noted → List PureValue → Heap → Type 0
noted_stands s v h = (h ≡ empty) × HasValue v (note_of s)

abbrev pub noted_terms : Noted → StateTerms
noted_terms s = terms_of_note (note_of s)

abbrev pub noted_plain : Noted → ℤ → ℤ → Type 0
noted_plain s low high = IsPlainNote (note_of s) low high

abbrev pub all_asked : List ℕ → List PureTerm → List PureTerm × List PureTerm
all_asked action args = (args, [])

-- no action depends on the literal form of a term
abbrev pub no_form_matters : Noted → List ℕ → List PureTerm → List PureValue → Heap → PureTerm → Type 0
no_form_matters s action args v h t = ⊥

-- there is nothing to keep
abbrev pub noted_kept : Noted → Type 0
noted_kept s = ⊤
