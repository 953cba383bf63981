-- What a command of the machine adds is what it may ask.
use Rattle.std.proofs.Common.{◌≡◌, inl, inr, ℕ, List, ◌++◌, refl}
use Rattle.gil_syntax.specs.Pure.{PureParts, PureCommand, assign, call, act, usym, isym, ifgoto, return, fail, throw, vanish, fold_use, unfold_use, assert_that, loop_invariant}
use Rattle.gil_syntax.specs.Valid.{param_names}
use Rattle.gil_values.specs.Pure.{PureValue}
use Rattle.mem_model.specs.Actions.{Actions}
use Rattle.mem_model.specs.Heaps.{Heap}
use Rattle.pure_terms.specs.Pure.{PureTerm, PureAtom}
use Rattle.sym_engine.specs.Lawful.{IsOwnOf, IsOwnAt}
use Rattle.sym_model.specs.Laws.{AsksItsArguments}
use Rattle.sym_model.specs.Lists.{Each, IsAmong}
use Rattle.sym_model.specs.Terms.{StateTerms}
use Rattle.sym_model.proofs.ListLaws.{each_to}
use Rattle.sym_paths.specs.Frames.{running_store, terms_bound}
use Rattle.checked_paths.specs.Exactness.{AddsOnly}
use Rattle.checked_paths.specs.Pure.{PureEntry, PureChecking, PureNext, further, over, caused}
use Rattle.checked_rows.specs.Asking.{NamesThere, MayAsk, AreNamesThere, MayAskAt}
use Rattle.checked_rows.specs.Names.{variables_there}

module _ {S : Type 0} (p : PureParts) (e : PureEntry) (x : PureChecking S) where
  abbrev names_there : NamesThere
  names_there = record {
    running = running_store x.path.stack;
    logic = running_store x.path.stack ++ variables_there x.path.stack e.variables;
    entry = terms_bound (param_names e.spec.params) e.args ++ e.variables;
  }

  are_there : AreNamesThere e x names_there
  are_there = record { running = refl; logic = λ y. refl; entry = λ y. refl }

  adds_to : (P Q : PureAtom → Type 0) → ((a : PureAtom) → P a → Q a) → (k : PureNext S) → AddsOnly P x k → AddsOnly Q x k
  adds_to P Q to (further y) (more, (is, all)) = (more, (is, each_to P Q more to all))
  adds_to P Q to over adds = tt
  adds_to P Q to (caused cause) (more, (is, all)) = (more, (is, each_to P Q more to all))

  module _ (stands : S → List PureValue → Heap → Type 0) (terms : S → StateTerms) (asked : List ℕ → List PureTerm → List PureTerm × List PureTerm) (m : Actions) (given : AsksItsArguments asked) where
    own_may : (k : PureCommand) (a : PureAtom) → IsOwnOf stands terms asked m x.path k a → MayAsk p e.spec names_there k a
    own_may (assign y d) a own = own
    own_may (fail d) a own = own
    own_may (ifgoto d i) a own = own
    own_may (act y action es) a (inl asks) = inl asks
    own_may (act y action es) a (inr (args, (are, own))) = inr (record {
      args = args;
      are_args = are;
      about = (asked action args).0;
      of_args = (given action args).0;
      formed = (asked action args).1;
      formed_args = each_to (λ t. IsAmong t args × IsAmong t (asked action args).0) (λ t. IsAmong t args) (asked action args).1 (λ t both. both.0) (given action args).1;
      held = terms x.path.memory;
      own = own;
    })
    own_may (usym y) a own = own
    own_may (isym y k) a own = own
    own_may vanish a own = own
    own_may (return d) a own = inl own
    own_may (throw d) a own = inl own
    own_may (call y d es handler) a own = inl own
    own_may (fold_use u) a own = absurd own
    own_may (unfold_use u) a own = absurd own
    own_may (assert_that items) a own = absurd own
    own_may (loop_invariant xs ps items) a own = absurd own

    pub own_asked : (ns : List (PureNext S)) → Each (AddsOnly (IsOwnAt stands terms asked m p x.path) x) ns → Each (AddsOnly (MayAskAt p e x) x) ns
    own_asked ns adds =
        each_to (AddsOnly (IsOwnAt stands terms asked m p x.path) x) (AddsOnly (MayAskAt p e x) x) ns
        (adds_to (IsOwnAt stands terms asked m p x.path) (MayAskAt p e x) (λ a own. (own.0, (own.1.0, (names_there, (are_there, own_may own.0.command a own.1.1)))))) adds
