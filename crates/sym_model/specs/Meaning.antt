-- What symbolic keys, results and branches stand for under a valuation.
use Rattle.std.specs.Prelude.{◌≡◌, ℕ, List, slice_get, Bool, true, false, Option, Some, None}
use Rattle.std.specs.List.{list_any}
use Rattle.gil_values.specs.Pure.{PureValue, symbol, text, integer}
use Rattle.mem_model.specs.declared.keys.Key.{Key}
use Rattle.mem_model.specs.declared.keys.Sub.{Sub}
use Rattle.mem_model.specs.declared.keys.Sub.TheVariants.{Name, At, Shape, Bound, Dom, Proto, Gone}
use Rattle.mem_model.specs.Keys.{key}
use Rattle.mem_model.specs.Pure.{PureOutcome}
use Rattle.mem_model.specs.Pure as outcome
use Rattle.mem_model.specs.Heaps.{Heap}
use Rattle.mem_model.specs.Actions.{ActionResult}
use Rattle.pure_terms.specs.declared.variables.Var.{Var}
use Rattle.pure_terms.specs.Meaning.{value}
use Rattle.pure_terms.specs.Pure.{PureTerm, PureAtom, positive, negative, opening}
use Rattle.sym_model.specs.Pure.{PureSub, named, cell, shape, bound, dom, proto, gone, PureResult, done, failed, missed, PureBranch}

-- a location is a symbol, a name a text, an offset a number
abbrev pub location_of : Option PureValue → Option ℕ
location_of (Some (symbol n)) = Some n
location_of _ = None

abbrev pub name_of : Option PureValue → Option Sub
name_of (Some (text p)) = Some (Name p)
name_of _ = None

abbrev pub cell_of : Option PureValue → Option Sub
cell_of (Some (integer i)) = Some (At i)
cell_of _ = None

abbrev pub sub_value : List PureValue → PureSub → Option Sub
sub_value v (named t) = name_of (value v t)
sub_value v (cell t) = cell_of (value v t)
sub_value v shape = Some Shape
sub_value v bound = Some Bound
sub_value v dom = Some Dom
sub_value v proto = Some Proto
sub_value v gone = Some Gone

abbrev pub key_of : Option ℕ → Option Sub → Option Key
key_of (Some l) (Some s) = Some (key l s)
key_of _ _ = None

-- the key that a location and a subkey stand for, where they stand for one
abbrev pub key_value : List PureValue → PureTerm → PureSub → Option Key
key_value v loc sub = key_of (location_of (value v loc)) (sub_value v sub)

-- the symbol of the fresh variable, where there is one
abbrev pub fresh_symbol : List PureValue → Option Var → Option ℕ
fresh_symbol v None = None
fresh_symbol v (Some x) = location_of (slice_get v x.number)

-- the result stands for the outcome, the key of a miss included
abbrev pub IsOutcome : List PureValue → PureResult → PureOutcome → Type 0
IsOutcome v (done t) (outcome.done w) = value v t ≡ Some w
IsOutcome v (failed t) (outcome.failed w) = value v t ≡ Some w
IsOutcome v (missed k) (outcome.miss q) = key_value v k.loc k.sub ≡ Some q
IsOutcome v _ _ = ⊥

abbrev pub is_open : PureAtom → Bool
is_open (opening t) = true
is_open (positive t) = false
is_open (negative t) = false

-- one of the conditions is an `Open`
abbrev pub has_open : List PureAtom → Bool
has_open conds = list_any is_open conds

-- the branch stands for what an action came to: the outcome, and the heap after it
pub record IsBranchFor {S : Type 0} (stands : S → List PureValue → Heap → Type 0) (v : List PureValue) (r : ActionResult)
    (b : PureBranch S) : Type 0 where
  pub result : IsOutcome v b.result r.outcome
  pub state : stands b.state v r.heap
