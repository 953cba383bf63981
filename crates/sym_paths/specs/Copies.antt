-- Candidates that are made of copies of a path: their memories are copies of those that the laws speak of.
use Rattle.std.specs.Prelude.{◌≡◌, ℕ, ℤ, List, [], ◌∷◌}
use Rattle.gil_values.specs.Pure.{PureValue}
use Rattle.gil_syntax.specs.Pure.{PureParts}
use Rattle.mem_model.specs.Actions.{Actions}
use Rattle.mem_model.specs.Heaps.{Heap}
use Rattle.pure_terms.specs.Pure.{PureTerm, PureAtom}
use Rattle.sym_model.specs.Laws.{IsCopy}
use Rattle.sym_model.specs.Lists.{IsAmong}
use Rattle.sym_model.specs.Terms.{StateTerms}
use Rattle.sym_paths.specs.Pure.{PurePath}
use Rattle.sym_paths.specs.Settling.{Candidate, AreCandidates}

module _ {S : Type 0} (stands : S → List PureValue → Heap → Type 0) (terms : S → StateTerms)
    (depends : S → List ℕ → List PureTerm → List PureValue → Heap → PureTerm → Type 0) (plain : S → ℤ → ℤ → Type 0) where
  -- the same candidate but for its memory, which stands for the same heaps
  pub record IsCopied (c copy : Candidate S) : Type 0 where
    pub path : copy.path ≡ record c.path { memory = copy.path.memory }
    pub no_fault : copy.no_fault ≡ c.no_fault
    pub memory : IsCopy stands terms depends plain c.path.memory copy.path.memory

  abbrev pub AreCopied : List (Candidate S) → List (Candidate S) → Type 0
  AreCopied [] ds = ds ≡ []
  AreCopied (c ∷ cs) ds = (d : Candidate S) × ((rest : List (Candidate S)) × ((ds ≡ d ∷ rest) × IsCopied c d × AreCopied cs rest))

  -- Copies of candidates are candidates.
  abbrev pub CopiesKeepTheLaws : Type 0
  CopiesKeepTheLaws =
      (p : PureParts) (m : Actions) (asked of_memory : List PureAtom) (path : PurePath S) (cs ds : List (Candidate S))
      → AreCandidates p m stands terms (λ a. IsAmong a asked) (λ a. IsAmong a of_memory) path cs → AreCopied cs ds
      → AreCandidates p m stands terms (λ a. IsAmong a asked) (λ a. IsAmong a of_memory) path ds
