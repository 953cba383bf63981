-- What a plain state is, and a narrow one, by the memory's name. Both are said of the terms of a state.
use Rattle.std.specs.Prelude.{◌≡◌, ℕ, ℤ, pos, ◌-ℤ◌, ◌+ℤ◌, ◌≤ℤ◌, List, [], ◌∷◌, ◌++◌, Bool, true, false, not, ◌&&◌, IsTrue, codes}
use Rattle.std.specs.Str.{bytes_eq}
use Rattle.mem_model.specs.declared.keys.MemoryName.{MemoryName}
use Rattle.mem_model.specs.declared.keys.MemoryName.TheVariants.{Record, Block, Object}
use Rattle.pure_terms.specs.declared.literals.Literal.{Literal}
use Rattle.pure_terms.specs.declared.variables.Sort.{Sort}
use Rattle.pure_terms.specs.Fragment.{has_literals_between}
use Rattle.pure_terms.specs.Kinds.{same_sort}
use Rattle.pure_terms.specs.Pure.{PureTerm, literal, variable, list_of, PureTerms, no_terms, term_and, to_list}
use Rattle.sym_model.specs.Laws.{IsPlainWithin, IsDecidedWithin, growth}
use Rattle.sym_model.specs.Lists.{Each}
use Rattle.sym_model.specs.Pure.{PureSub, named, PureKey, PureResult, done, failed, missed, PureBranch}
use Rattle.sym_model.specs.Terms.{StateTerms, all_of, is_literal, is_list_term}

-- ---- plain

-- what a descriptor holds in a plain state: a list term of names, and a literal bound
abbrev pub is_plain_description : MemoryName → PureTerm → Bool
is_plain_description Record t = is_list_term t
is_plain_description Block t = is_literal t
is_plain_description Object t = is_list_term t

-- each term is plain with its literals between two bounds, and each descriptor holds what it may in a plain state
pub record IsPlainState (memory : MemoryName) (terms : StateTerms) (low high : ℤ) : Type 0 where
  pub plain : Each (IsPlainWithin low high) (all_of terms)
  pub described : Each (λ t. IsTrue (is_plain_description memory t)) terms.described

-- ---- narrow

-- a literal, or a variable of a sort other than list
abbrev pub is_narrow : PureTerm → Bool
is_narrow (literal l) = true
is_narrow (variable x) = not (same_sort x.sort Sort.List)
is_narrow _ = false

abbrev pub is_text_literal : PureTerm → Bool
is_text_literal (literal (Literal.Str p)) = true
is_text_literal _ = false

abbrev pub are_literals : PureTerms → Bool
are_literals no_terms = true
are_literals (term_and t ts) = is_literal t && are_literals ts

abbrev pub are_text_literals : PureTerms → Bool
are_text_literals no_terms = true
are_text_literals (term_and t ts) = is_text_literal t && are_text_literals ts

-- a list term of literals, and one of text literals
abbrev pub is_list_of_literals : PureTerm → Bool
is_list_of_literals (list_of ts) = are_literals ts
is_list_of_literals _ = false

abbrev pub is_list_of_texts : PureTerm → Bool
is_list_of_texts (list_of ts) = are_text_literals ts
is_list_of_texts _ = false

abbrev pub IsNarrowWithin : ℤ → ℤ → PureTerm → Type 0
IsNarrowWithin low high t = IsTrue (is_narrow t) × IsTrue (has_literals_between low high t)

-- each location, name and value is narrow with its literals between two bounds, and descriptors hold list terms of text literals
pub record IsNarrowState (terms : StateTerms) (low high : ℤ) : Type 0 where
  pub placed : Each (IsNarrowWithin low high) terms.placed
  pub described : Each (λ t. IsTrue (is_list_of_texts t)) terms.described
  pub held : Each (IsNarrowWithin low high) terms.held

-- what an action comes to from narrow states and arguments: a narrow term, or a miss of a narrow name
abbrev pub IsNarrowKey : ℤ → ℤ → PureTerm → PureSub → Type 0
IsNarrowKey low high loc (named p) = IsNarrowWithin low high loc × IsNarrowWithin low high p
IsNarrowKey low high loc _ = ⊥

abbrev pub IsNarrowResult : ℤ → ℤ → PureResult → Type 0
IsNarrowResult low high (done t) = IsNarrowWithin low high t
IsNarrowResult low high (failed t) = IsNarrowWithin low high t
IsNarrowResult low high (missed k) = IsNarrowKey low high k.loc k.sub

-- The arguments of an action from which it answers narrowly: they are narrow, or one list of literals for `new`. `dispose` doesn't
-- answer so.
pub record AreNarrowArguments (action : List ℕ) (args : List PureTerm) (low high : ℤ) : Type 0 where
  pub around_zero : (low ≤ℤ pos 0) × (pos 0 ≤ℤ high)
  pub no_dispose : bytes_eq action (codes "dispose") ≡ false
  pub narrow : bytes_eq action (codes "new") ≡ false → Each (IsNarrowWithin low high) args
  pub literals : IsTrue (bytes_eq action (codes "new"))
      → Each (λ t. IsTrue (is_list_of_literals t) × IsTrue (has_literals_between low high t)) args

-- Narrow: each condition has a form of the fragment, and results and new states are narrow, within bounds that are a little wider.
abbrev pub AreNarrow : {S : Type 0} → (S → StateTerms) → ℤ → ℤ → List (PureBranch S) → Type 0
AreNarrow terms low high bs =
    Each (λ b. Each (IsDecidedWithin (low -ℤ growth) (high +ℤ growth)) b.conds
    × (IsNarrowState (terms b.state) (low -ℤ growth) (high +ℤ growth) × IsNarrowResult (low -ℤ growth) (high +ℤ growth) b.result)) bs

abbrev pub ActsNarrowly : {S : Type 0} → (S → StateTerms) → List ℕ → List PureTerm → S → List (PureBranch S) → Type 0
ActsNarrowly terms action args s bs =
    (low high : ℤ) → IsNarrowState (terms s) low high → AreNarrowArguments action args low high → AreNarrow terms low high bs
