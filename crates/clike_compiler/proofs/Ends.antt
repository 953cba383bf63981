-- A C-like program and its compiled program have the same ends.
use Rattle.std.proofs.Common.{◌≡◌, true, false, refl}
use Rattle.std.specs.List.{list_all}
use Rattle.mem_model.specs.declared.keys.MemoryName.TheVariants as memories
use Rattle.block_heap.specs.Table.{block_actions}
use Rattle.source_language.proofs.Ends as ends
use Rattle.source_operators.specs.Names.{is_source_expression}
use Rattle.source_statements.proofs.Ends as statements
use Rattle.source_statements.proofs.Ends.{AllRun, keeps_head, found_proc}
use Rattle.clike_operators.proofs.Running.{operators_run}
use Rattle.clike_lang.specs.Meaning.{clike_meanings}
use Rattle.clike_lang.specs.Names.{is_source_simple, is_source_function}
use Rattle.clike_lang.specs.Pure.{PureSource}
use Rattle.clike_compiler.specs.Compiled.{clike_codes, compiled_function, compiled}
use Rattle.clike_compiler.specs.SameEnds.{HasSameEnds}
use Rattle.clike_compiler.proofs.Actions.{TakesForBlocks}
use Rattle.clike_compiler.proofs.Following.{language_runs}

takes_for_blocks : TakesForBlocks block_actions
takes_for_blocks = record { alloc = refl; load = refl; store = refl; free = refl }

pub has_same_ends : (source : PureSource) → list_all (λ f. is_source_function f) source.functions ≡ true → HasSameEnds source (compiled source)
has_same_ends source named =
    statements.has_same_ends clike_codes source block_actions (λ inputs loops calls. clike_meanings source.functions block_actions inputs calls)
    false is_source_expression is_source_simple runs named memories.Block
  where
    runs : AllRun clike_codes source block_actions (λ inputs loops calls. clike_meanings source.functions block_actions inputs calls) false
        is_source_expression is_source_simple
    runs inputs loops least calls le calls_follow g h is callers =
        language_runs (compiled source) block_actions takes_for_blocks inputs source.functions calls
        (ends.same_found compiled_function (keeps_head clike_codes) source.functions) least calls_follow h.name (compiled_function h)
        (found_proc clike_codes source g h is) callers
        (λ catcher some end. operators_run (compiled source) block_actions inputs h.name (compiled_function h)
        (found_proc clike_codes source g h is) callers catcher some end takes_for_blocks.load)
