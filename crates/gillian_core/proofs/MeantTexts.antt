-- What the texts of each language come to, where their programs keep their ends.
use Rattle.std.proofs.Common.{◌≡◌, ℕ, List, []}
use Rattle.std.specs.FinMap.{empty}
use Rattle.gil_values.specs.declared.places.Place.{Place}
use Rattle.gil_values.specs.Pure.{PureValue}
use Rattle.gil_syntax.specs.Pure.{PureParts}
use Rattle.mem_model.specs.declared.keys.MemoryName.TheVariants as memories
use Rattle.record_heap.specs.Table.{record_actions}
use Rattle.block_heap.specs.Table.{block_actions}
use Rattle.object_heap.specs.Table.{object_actions}
use Rattle.gil_machine.specs.Held.{held_run_of}
use Rattle.gil_machine.specs.Run.{IsEntry, run_of, test_run}
use Rattle.gil_machine.specs.State.{failed}
use Rattle.gil_machine.proofs.Entries.{entry_starts}
use Rattle.source_language.specs.SameEnds.{AreSameEnds}
use Rattle.while_lang.specs.Pure.{PureSource}
use Rattle.while_lang.specs.Meaning.{source_end}
use Rattle.while_compiler.specs.SameEnds.{HasSameEnds}
use Rattle.clike_lang.specs.Pure as clike
use Rattle.clike_lang.specs.Meaning as clike_meaning
use Rattle.clike_compiler.specs.SameEnds as clike_ends
use Rattle.object_lang.specs.Pure as objects
use Rattle.object_lang.specs.Meaning as object_meaning
use Rattle.object_compiler.specs.SameEnds as object_ends
use Rattle.gillian_words.specs.declared.tasks.Language.{Language}
use Rattle.gillian_words.specs.declared.tasks.Language.TheVariants.{GilRecord, GilBlock, GilObject, While, Clike, Object}
use Rattle.gillian_core.specs.Ends.{end_answer}
use Rattle.gillian_core.specs.Languages.{definition_of}
use Rattle.gil_report.specs.Pure.{failed as failed_answer}
use Rattle.gillian_core.proofs.Meant.{run_meant, failure_meant}

while_same : (s : PureSource) (p : PureParts) (f : List ℕ) (inputs : List PureValue) → HasSameEnds s p → IsEntry p f
    → AreSameEnds (source_end s record_actions f [] empty 0 inputs) (run_of p record_actions f [] empty 0 inputs)
while_same s p f inputs same entry = same.ends f [] empty 0 inputs ((same.starts f [] empty 0).1 (entry_starts p memories.Record f entry))

clike_same : (s : clike.PureSource) (p : PureParts) (f : List ℕ) (inputs : List PureValue) → clike_ends.HasSameEnds s p → IsEntry p f
    → AreSameEnds (clike_meaning.source_end s block_actions f [] empty 0 inputs) (run_of p block_actions f [] empty 0 inputs)
clike_same s p f inputs same entry = same.ends f [] empty 0 inputs ((same.starts f [] empty 0).1 (entry_starts p memories.Block f entry))

object_same : (s : objects.PureSource) (p : PureParts) (f : List ℕ) (inputs : List PureValue) → object_ends.HasSameEnds s p → IsEntry p f
    → AreSameEnds (object_meaning.source_end s object_actions f [] empty 0 inputs) (run_of p object_actions f [] empty 0 inputs)
object_same s p f inputs same entry = same.ends f [] empty 0 inputs ((same.starts f [] empty 0).1 (entry_starts p memories.Object f entry))

-- the answer of a run is meant by the text
pub run_is_meant : (l : Language) (bytes : List ℕ) (p : PureParts) (f : List ℕ) (inputs : List PureValue) (bound : ℕ)
    → (definition_of l).KeepsEnds bytes p → IsEntry p f
    → (definition_of l).IsMeant bytes f inputs (end_answer (held_run_of p (definition_of l).memory.actions f [] empty 0 inputs bound))
run_is_meant GilRecord bytes p f inputs bound keeps entry = tt
run_is_meant GilBlock bytes p f inputs bound keeps entry = tt
run_is_meant GilObject bytes p f inputs bound keeps entry = tt
run_is_meant While bytes p f inputs bound keeps entry = (
  keeps.0,
  keeps.1,
  run_meant p record_actions f inputs (source_end keeps.0 record_actions f [] empty 0 inputs)
      (while_same keeps.0 p f inputs keeps.2 entry) bound,
)
run_is_meant Clike bytes p f inputs bound keeps entry = (
  keeps.0,
  keeps.1,
  run_meant p block_actions f inputs (clike_meaning.source_end keeps.0 block_actions f [] empty 0 inputs)
      (clike_same keeps.0 p f inputs keeps.2 entry) bound,
)
run_is_meant Object bytes p f inputs bound keeps entry = (
  keeps.0,
  keeps.1,
  run_meant p object_actions f inputs (object_meaning.source_end keeps.0 object_actions f [] empty 0 inputs)
      (object_same keeps.0 p f inputs keeps.2 entry) bound,
)

-- and so is the failure of a bug
pub failure_is_meant : (l : Language) (bytes : List ℕ) (p : PureParts) (f : List ℕ) (inputs : List PureValue) (bound : ℕ)
    (v : PureValue) (place : Place) → (definition_of l).KeepsEnds bytes p → IsEntry p f
    → (test_run p (definition_of l).memory.actions f inputs bound).ending ≡ failed v place
    → (definition_of l).IsMeant bytes f inputs (failed_answer v place)
failure_is_meant GilRecord bytes p f inputs bound v place keeps entry fails = tt
failure_is_meant GilBlock bytes p f inputs bound v place keeps entry fails = tt
failure_is_meant GilObject bytes p f inputs bound v place keeps entry fails = tt
failure_is_meant While bytes p f inputs bound v place keeps entry fails = (
  keeps.0,
  keeps.1,
  failure_meant p record_actions f inputs (source_end keeps.0 record_actions f [] empty 0 inputs)
      (while_same keeps.0 p f inputs keeps.2 entry) bound v place fails,
)
failure_is_meant Clike bytes p f inputs bound v place keeps entry fails = (
  keeps.0,
  keeps.1,
  failure_meant p block_actions f inputs (clike_meaning.source_end keeps.0 block_actions f [] empty 0 inputs)
      (clike_same keeps.0 p f inputs keeps.2 entry) bound v place fails,
)
failure_is_meant Object bytes p f inputs bound v place keeps entry fails = (
  keeps.0,
  keeps.1,
  failure_meant p object_actions f inputs (object_meaning.source_end keeps.0 object_actions f [] empty 0 inputs)
      (object_same keeps.0 p f inputs keeps.2 entry) bound v place fails,
)
