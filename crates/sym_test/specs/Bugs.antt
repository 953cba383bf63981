-- Where a bug comes from: the path that fails, and the inputs of a run along it.
use Rattle.std.specs.Prelude.{◌≡◌, ℕ, ◌≤◌, List, length, Bool, true, false, Some, codes}
use Rattle.gil_values.specs.declared.places.Place.{Place}
use Rattle.gil_values.specs.Pure.{PureValue, text}
use Rattle.gil_syntax.specs.Pure.{PureParts}
use Rattle.mem_model.specs.Actions.{Actions}
use Rattle.mem_model.specs.Heaps.{Heap}
use Rattle.pure_terms.specs.Meaning.{value}
use Rattle.pure_terms.specs.Pure.{PureTerm}
use Rattle.sym_step.specs.Plain.{EachStep}
use Rattle.sym_step.specs.Trails.{IsTrail}
use Rattle.sym_model.specs.Terms.{StateTerms}
use Rattle.sym_paths.specs.Forms.{NeedsWhatMatters}
use Rattle.sym_paths.specs.Meaning.{EndsAt, IsFirstPath}
use Rattle.sym_paths.specs.Pure.{PureEnd, returned, failed, threw, missed, vanished, cut, unknown, PurePath}
use Rattle.sym_test.specs.Canonical.{draws_among, IsCanonical}

-- the end of a path that fails with a term at a place, or throws it there and nothing catches it
abbrev pub failure : Bool → PureTerm → Place → PureEnd
failure false t place = failed t place
failure true t place = threw t place

-- under the valuation the path fails with this value
abbrev pub FailsWith : List PureValue → PureEnd → PureValue → Type 0
FailsWith v (failed t place) w = value v t ≡ Some w
FailsWith v (threw t place) w = value v t ≡ Some w
FailsWith v (missed k place) w = w ≡ text (codes "missing")
FailsWith v (returned t) w = ⊥
FailsWith v vanished w = ⊥
FailsWith v cut w = ⊥
FailsWith v (unknown place reason) w = ⊥

module _ {S : Type 0} (p : PureParts) (m : Actions) (stands : S → List PureValue → Heap → Type 0) (terms : S → StateTerms)
    (asked : List ℕ → List PureTerm → List PureTerm × List PureTerm) (depends : S → List ℕ → List PureTerm → List PureValue → Heap → PureTerm → Type 0)
    (f : List ℕ) (n : ℕ) where
  -- The way of a bug: at most n steps lead from the first path of the test to one that fails at the place. The inputs are the draws of a
  -- canonical valuation that meets its conditions, and under which it fails with the value: so draws that no condition of the way names
  -- are 0, false and the empty text.
  pub record IsFound (place : Place) (w : PureValue) (inputs : List PureValue) : Type 0 where
    pub start : PurePath S
    pub first : IsFirstPath stands terms f start
    pub earlier : List (PurePath S)
    pub path : PurePath S
    pub trail : IsTrail p m stands terms asked start earlier path
    pub within : length earlier ≤ n
    pub forms : EachStep (NeedsWhatMatters p stands depends) earlier path
    pub how : PureEnd
    pub ending : path.ending ≡ Some how
    pub ends_there : EndsAt place how
    pub valuation : List PureValue
    pub canonical : IsCanonical path.vars path.conds valuation
    pub draws : inputs ≡ draws_among path.vars valuation
    pub value_is : FailsWith valuation how w
