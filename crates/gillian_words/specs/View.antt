-- The pure data of what words ask for.
use Rattle.std.specs.Prelude.{codes}
use Rattle.std.specs.Option.{option_map}
use Rattle.clap.specs.Words.{found_of, first_value}
use Rattle.clap.specs.declared.parser.matches.ArgMatches.{ArgMatches}
use Rattle.gil_values.specs.View.{values_view}
use Rattle.gillian_words.specs.declared.tasks.Task.{Task}
use Rattle.gillian_words.specs.declared.tasks.Task.TheVariants.{Run, Test, Check, Infer, Compile, Solve, Sweep}
use Rattle.gillian_words.specs.declared.line.Given.{Given as Matches}
use Rattle.gillian_words.specs.Asked.{Given}
use Rattle.gillian_words.specs.declared.tasks.Request.{Request}
use Rattle.gillian_words.specs.Tasks.{PureTask, run, test, check, infer, compile, solve, sweep, PureRequest}

abbrev pub task_view : Task → PureTask
task_view (Run language entry bound inputs) = run language entry bound.steps (values_view inputs)
task_view (Test language entry bound) = test language entry bound.steps
task_view (Check language bound) = check language bound.steps
task_view (Infer language entry bound) = infer language entry bound.steps
task_view (Compile language) = compile language
task_view Solve = solve
task_view (Sweep size) = sweep size.assertions

abbrev pub request_view : Request → PureRequest
request_view r = record { task = task_view r.task; json = r.json }

abbrev pub given_view : Matches → Given
given_view g = record {
  mode = option_map (λ s. s.now) g.mode;
  second = option_map (λ s. s.now) g.second;
  bound = option_map (λ s. s.now) g.bound;
  entry = option_map (λ s. s.now) g.entry;
  inputs = option_map (λ s. s.now) g.inputs;
  json = option_map (λ s. s.now) g.json;
}

-- the first value of each name among clap's matches
abbrev pub matched_in : ArgMatches → Given
matched_in m = record {
  mode = first_value (found_of m) (codes "mode");
  second = first_value (found_of m) (codes "second");
  bound = first_value (found_of m) (codes "bound");
  entry = first_value (found_of m) (codes "entry");
  inputs = first_value (found_of m) (codes "inputs");
  json = first_value (found_of m) (codes "json");
}
