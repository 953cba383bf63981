-- How leaves come of splits: what is found is a match under its conditions, and where nothing is, matching stops.
use Rattle.std.specs.Prelude.{◌≡◌, ℕ, List, [], ◌∷◌, ◌++◌, map, Option, Some, None}
use Rattle.gil_values.specs.Pure.{PureValue}
use Rattle.mem_model.specs.Heaps.{Heap}
use Rattle.pure_terms.specs.Pure.{PureAtom}
use Rattle.sym_evaluation.specs.Pure.{PureStore, PureGoodCase}
use Rattle.sym_matching.specs.Pure.{PureSplit}
use Rattle.sym_model.specs.Terms.{StateTerms}
use Rattle.sym_states.specs.Pure.{PureState}
use Rattle.footprint.specs.Pure.{PureMatch, PureStop, PureLeaves}

abbrev pub no_leaves : {S : Type 0} → PureLeaves S
no_leaves = record { matched = []; stopped = []; undecided = [] }

abbrev pub joined : {S : Type 0} → PureLeaves S → PureLeaves S → PureLeaves S
joined p q =
    record { matched = p.matched ++ q.matched; stopped = p.stopped ++ q.stopped; undecided = p.undecided ++ q.undecided }

-- the item stops under each of the alternatives, beside these conditions
abbrev pub stops_at : ℕ → List PureAtom → List (List PureAtom) → List PureStop
stops_at n conds alternatives = map (λ more. record { item = n; conds = conds ++ more }) alternatives

-- the state under further conditions
abbrev pub with_conds : {S : Type 0} → PureState S → List PureAtom → PureState S
with_conds s more = record s { conds = s.conds ++ more }

abbrev pub found_where : {S : Type 0} → PureState S → Option (PureGoodCase PureStore) → List (PureMatch S)
found_where s None = []
found_where s (Some g) = record { state = with_conds s g.conds; store = g.result } ∷ []

-- the leaves of a split of the item's stores, in this state
abbrev pub spread : {S : Type 0} → ℕ → PureState S → PureSplit PureStore → PureLeaves S
spread n s x = record { matched = found_where s x.found; stopped = stops_at n s.conds x.none; undecided = [] }

-- the item stops in this state
abbrev pub all_stop : {S : Type 0} → ℕ → PureState S → PureLeaves S
all_stop n s = record { matched = []; stopped = record { item = n; conds = s.conds } ∷ []; undecided = [] }

-- The leaves are those that come of each element, one after another.
abbrev pub Gathers : {A S : Type 0} → (A → PureLeaves S → Type 0) → List A → PureLeaves S → Type 0
Gathers P [] leaves = leaves ≡ no_leaves
Gathers {S = S} P (x ∷ xs) leaves =
    (first : PureLeaves S) × ((rest : PureLeaves S) × (P x first × Gathers P xs rest × (leaves ≡ joined first rest)))

-- the memory stands for the same heaps, has the same terms, and keeps what the other one kept
pub record IsSameMemory {S : Type 0} (stands : S → List PureValue → Heap → Type 0) (terms : S → StateTerms) (kept : S → Type 0)
    (m copy : S) : Type 0 where
  pub stands_for : (v : List PureValue) (h : Heap) → stands m v h → stands copy v h
  pub same_terms : terms copy ≡ terms m
  pub still_kept : kept m → kept copy

-- a copy of the state under further conditions
pub record IsCopyUnder {S : Type 0} (stands : S → List PureValue → Heap → Type 0) (terms : S → StateTerms) (kept : S → Type 0)
    (s : PureState S) (more : List PureAtom) (r : PureState S) : Type 0 where
  pub is : r ≡ record (with_conds s more) { memory = r.memory }
  pub memory : IsSameMemory stands terms kept s.memory r.memory

-- a copy of the state under other conditions
pub record IsRenewed {S : Type 0} (stands : S → List PureValue → Heap → Type 0) (terms : S → StateTerms) (kept : S → Type 0)
    (s : PureState S) (conds : List PureAtom) (r : PureState S) : Type 0 where
  pub is : r ≡ record s { conds = conds; memory = r.memory }
  pub memory : IsSameMemory stands terms kept s.memory r.memory
