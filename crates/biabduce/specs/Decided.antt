-- Where inference leaves nothing undecided.
use Rattle.std.specs.Prelude.{◌≡◌, ℕ, List, Option, Some, None, IsTrue, ⊤}
use Rattle.gil_syntax.specs.Pure.{PureParts}
use Rattle.gil_syntax.specs.Simple.{is_simple}
use Rattle.gil_machine.specs.Run.{IsEntry}
use Rattle.mem_model.specs.declared.keys.MemoryName.{MemoryName}
use Rattle.mem_model.specs.Actions.{Actions, MissesWhatLacks}
use Rattle.pure_terms.specs.declared.variables.Sort.{Sort}
use Rattle.sym_model.specs.Lists.{Each}
use Rattle.sym_paths.specs.Pure.{PureEnd, returned, failed, threw, missed, vanished, cut, unknown}
use Rattle.bi_beginnings.specs.Beginnings.{IsBare}
use Rattle.bi_beginnings.specs.Fixing.{IsKeyAtNewSymbol}
use Rattle.biabduce.specs.Sound.{PureInference}

-- Nothing needs to be left undecided of a procedure without parameters: the memory keeps the law of plain memories, and misses only keys of
-- its own that the heap lacks; and each command of the program is of simple form.
pub record IsDecidable (keeps_plain : Type 0) (p : PureParts) (memory : MemoryName) (m : Actions) (f : List ℕ) : Type 0 where
  pub plain : keeps_plain
  pub own_keys : MissesWhatLacks memory m
  pub simple : IsTrue (is_simple p)
  pub entry : IsEntry p f

-- nothing was left undecided, and the beginnings that are left are bare
pub record IsDecided (i : PureInference) : Type 0 where
  pub left : Each IsBare i.left
  pub decided : i.undecided ≡ None

abbrev pub StaysDecided : PureInference → PureInference → Type 0
StaysDecided i j = IsDecided i → IsDecided j

-- the path is decided, and where it missed a key, that one is at a symbol that the run took
abbrev pub IsClosed : MemoryName → List Sort → Option PureEnd → Type 0
IsClosed memory vars (Some (missed key place)) = IsKeyAtNewSymbol memory vars key
IsClosed memory vars (Some (unknown place reason)) = ⊥
IsClosed memory vars (Some (returned t)) = ⊤
IsClosed memory vars (Some (failed t place)) = ⊤
IsClosed memory vars (Some (threw t place)) = ⊤
IsClosed memory vars (Some vanished) = ⊤
IsClosed memory vars (Some cut) = ⊤
IsClosed memory vars None = ⊤
