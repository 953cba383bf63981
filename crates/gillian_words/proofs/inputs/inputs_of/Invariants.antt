-- The values so far and those that the rest spells are those of the word.
use Rattle.std.proofs.Common.{List, ◌∷◌, ◌++◌, length}
use Rattle.gil_values.specs.Pure.{PureValue}
use Rattle.gil_values.specs.View.{values_view}
use Rattle.gillian_words.specs.Inputs.{SpellsSome, SpellsInputs}
use Rattle.gillian_words.proofs.inputs.inputs_of.Given as goal

abbrev pub invariant-pieces : goal.invariant-pieces
invariant-pieces l = record {
  spelled : (v : PureValue) (vs : List PureValue) → SpellsSome l.rest v vs → SpellsInputs l.fn.word (values_view l.values ++ v ∷ vs);
  left : (vs : List PureValue) → SpellsInputs l.fn.word vs → (v : PureValue) × ((ws : List PureValue) × SpellsSome l.rest v ws);
}

abbrev pub decreases-pieces : goal.decreases-pieces
decreases-pieces l = length l.rest
