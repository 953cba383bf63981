-- Literal forms: the candidates of an action need only those that matter to it.
use Rattle.std.specs.Prelude.{◌≡◌, ℕ, List, Some}
use Rattle.gil_values.specs.Pure.{PureValue}
use Rattle.gil_syntax.specs.Pure.{PureParts, PureCommand, PureNumberedCommand}
use Rattle.mem_model.specs.Heaps.{Heap}
use Rattle.pure_terms.specs.Pure.{PureTerm}
use Rattle.sym_model.specs.Lists.{Each}
use Rattle.sym_model.specs.Terms.{StateTerms}
use Rattle.sym_paths.specs.Forms.{NeedsWhatMatters}
use Rattle.sym_paths.specs.Meaning.{IsOverTable, command_of_path}
use Rattle.sym_paths.specs.Pure.{PurePath}
use Rattle.sym_paths.specs.Settling.{Candidate}

module _ {S : Type 0} (stands : S → List PureValue → Heap → Type 0) (terms : S → StateTerms)
    (depends : S → List ℕ → List PureTerm → List PureValue → Heap → PureTerm → Type 0) where
  -- Wherever the path stands at the command in the program, each of these candidates needs only what matters.
  abbrev pub NeedWhatMattersIn : PureParts → PurePath S → PureCommand → List (Candidate S) → Type 0
  NeedWhatMattersIn p path command cs =
      (c : PureNumberedCommand) → IsOverTable terms path → command_of_path p path ≡ Some c → c.command ≡ command
      → Each (λ d. NeedsWhatMatters p stands depends path d.path) cs

  -- the same of every program
  abbrev pub NeedWhatMatters : PurePath S → PureCommand → List (Candidate S) → Type 0
  NeedWhatMatters path command cs = (p : PureParts) → NeedWhatMattersIn p path command cs
