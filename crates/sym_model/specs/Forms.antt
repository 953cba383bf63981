-- The law on literal forms: an action needs the literal form of a term only where what it comes to depends on it.
use Rattle.std.specs.Prelude.{◌≡◌, ℕ, List, Option, IsTrue}
use Rattle.gil_values.specs.Pure.{PureValue}
use Rattle.mem_model.specs.Heaps.{Heap}
use Rattle.pure_terms.specs.declared.variables.Sort.{Sort}
use Rattle.pure_terms.specs.declared.variables.Var.{Var}
use Rattle.pure_terms.specs.Meaning.{all_true}
use Rattle.pure_terms.specs.Pure.{PureTerm, PureAtom, opening}
use Rattle.sym_model.specs.Laws.{Serves}
use Rattle.sym_model.specs.Lists.{Each}
use Rattle.sym_model.specs.Pure.{PureBranch}
use Rattle.sym_model.specs.Terms.{StateTerms}

-- where the condition is that the literal form of a term is needed, P holds of the term
abbrev pub OpensOnly : (PureTerm → Type 0) → PureAtom → Type 0
OpensOnly P a = (t : PureTerm) → a ≡ opening t → P t

-- Forms: where the conditions of a branch are true, the action depends, as `depends` says, on each term whose form they need.
abbrev pub OpenWhatMatters : {S : Type 0} → (S → List PureValue → Heap → Type 0) → (S → StateTerms)
    → (S → List ℕ → List PureTerm → List PureValue → Heap → PureTerm → Type 0) → List ℕ → Option Var → List PureTerm → S
    → List (PureBranch S) → Type 0
OpenWhatMatters stands terms depends action fresh args s bs =
    (vars : List Sort) (v args' : List PureValue) (h : Heap) → Serves stands terms vars v fresh args s args' h
    → Each (λ b. IsTrue (all_true v b.conds) → Each (OpensOnly (depends s action args v h)) b.conds) bs
