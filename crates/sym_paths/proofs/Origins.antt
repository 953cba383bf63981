-- What follows a path at its command.
use Rattle.std.proofs.Common.{◌≡◌, ◌⊎◌, List, [], ◌∷◌, Bool, true, false, Some, None, refl, sym, ap, subst, ◌∙◌, true≢false}
use Rattle.gil_values.specs.declared.places.Place.{Place}
use Rattle.gil_syntax.specs.Pure.{PureParts, PureCommand, PureNumberedCommand, vanish, usym, isym, assign, call, act, ifgoto, return, fail, throw, fold_use, unfold_use, assert_that, loop_invariant}
use Rattle.mem_model.specs.Actions.{Actions}
use Rattle.pure_terms.specs.Pure.{PureTerm}
use Rattle.sym_model.specs.Terms.{StateTerms}
use Rattle.sym_model.proofs.ListLaws.{same_some, not_none}
use Rattle.sym_paths.specs.Frames.{running_store, advanced, AreMoved}
use Rattle.sym_paths.specs.Meaning.{command_of_path}
use Rattle.sym_paths.specs.Moves.{IsLogic}
use Rattle.sym_paths.specs.Origins.{IsText, IsFailing, IsThrown, KeepsMemory, GoesOnFrom, Follows}
use Rattle.sym_paths.specs.Pure.{PureFrame, PureEnd, returned, failed, threw, missed, vanished, cut, unknown, PurePath}

-- ---- ends

abbrev pub is_failure : PureEnd → Bool
is_failure (failed t place) = true
is_failure (returned t) = false
is_failure (threw t place) = false
is_failure (missed k place) = false
is_failure vanished = false
is_failure cut = false
is_failure (unknown place reason) = false

abbrev pub is_throw : PureEnd → Bool
is_throw (threw t place) = true
is_throw (returned t) = false
is_throw (failed t place) = false
is_throw (missed k place) = false
is_throw vanished = false
is_throw cut = false
is_throw (unknown place reason) = false

same_term : (t u : PureTerm) (place other : Place) → failed t place ≡ failed u other → t ≡ u
same_term t u place other same = cc

same_thrown : (t u : PureTerm) (place other : Place) → threw t place ≡ threw u other → t ≡ u
same_thrown t u place other same = cc

-- ---- frames

pub stays_moved : (fs : List PureFrame) → AreMoved fs fs
stays_moved [] = tt
stays_moved (f ∷ fs) = (refl, refl)

pub advanced_moved : (fs : List PureFrame) → AreMoved fs (advanced (running_store fs) fs)
advanced_moved [] = tt
advanced_moved (f ∷ fs) = (refl, refl)

-- ---- paths

module _ {S : Type 0} (p : PureParts) (m : Actions) (terms : S → StateTerms) (path next : PurePath S) where
  abbrev GoesOn : PureCommand → Type 0
  GoesOn k = GoesOnFrom p m terms path next k

  pub logic_moves : (k : PureCommand) → IsLogic k → KeepsMemory p m terms path next → AreMoved path.stack next.stack → GoesOn k
  logic_moves (fold_use u) logic keeps moved = (keeps, moved)
  logic_moves (unfold_use u) logic keeps moved = (keeps, moved)
  logic_moves (assert_that items) logic keeps moved = (keeps, moved)
  logic_moves (loop_invariant xs ps items) logic keeps moved = (keeps, moved)
  logic_moves (assign x e) logic keeps moved = absurd logic
  logic_moves (call x e es handler) logic keeps moved = absurd logic
  logic_moves (act x a es) logic keeps moved = absurd logic
  logic_moves (usym x) logic keeps moved = absurd logic
  logic_moves (isym x k) logic keeps moved = absurd logic
  logic_moves (ifgoto e i) logic keeps moved = absurd logic
  logic_moves (return e) logic keeps moved = absurd logic
  logic_moves (fail e) logic keeps moved = absurd logic
  logic_moves (throw e) logic keeps moved = absurd logic
  logic_moves vanish logic keeps moved = absurd logic

  -- a path that ends without a failure and without a throw
  pub follows_ended : (how : PureEnd) → next.ending ≡ Some how → is_failure how ≡ false → is_throw how ≡ false → Follows p m terms path next
  follows_ended how is other no_throw = record {
    going = λ d there still. not_none (sym still ∙ is);
    failing = λ d t place there ending. absurd (true≢false (ap is_failure (same_some (sym ending ∙ is)) ∙ other));
    throwing = λ d t place there ending. absurd (true≢false (ap is_throw (same_some (sym ending ∙ is)) ∙ no_throw));
  }

  module _ (c : PureNumberedCommand) (at : command_of_path p path ≡ Some c) (command : PureCommand) (is : c.command ≡ command) where
    same_command : (d : PureNumberedCommand) → command_of_path p path ≡ Some d → command ≡ d.command
    same_command d there = sym is ∙ ap (λ (k : PureNumberedCommand). k.command) (same_some (sym at ∙ there))

    -- a path that goes on
    pub follows_going : next.ending ≡ None → GoesOn command → Follows p m terms path next
    follows_going none so = record {
      going = λ d there still. subst GoesOn (same_command d there) so;
      failing = λ d t place there ending. not_none (sym none ∙ ending);
      throwing = λ d t place there ending. not_none (sym none ∙ ending);
    }

    -- a path that fails
    pub follows_failing : (t : PureTerm) (place : Place) → next.ending ≡ Some (failed t place) → IsText t ⊎ IsFailing m terms path command t → Follows p m terms path next
    follows_failing t place ends so = record {
      going = λ d there still. not_none (sym still ∙ ends);
      failing = λ d u other there ending.
          subst (λ k. IsText u ⊎ IsFailing m terms path k u) (same_command d there)
          (subst (λ v. IsText v ⊎ IsFailing m terms path command v) (same_term t u place other (same_some (sym ends ∙ ending))) so);
      throwing = λ d u other there ending. absurd (true≢false (sym (ap is_throw (same_some (sym ends ∙ ending)))));
    }

    -- a path that throws
    pub follows_throwing : (t : PureTerm) (place : Place) → next.ending ≡ Some (threw t place) → IsThrown m terms path command t → Follows p m terms path next
    follows_throwing t place ends so = record {
      going = λ d there still. not_none (sym still ∙ ends);
      failing = λ d u other there ending. absurd (true≢false (sym (ap is_failure (same_some (sym ends ∙ ending)))));
      throwing = λ d u other there ending.
          subst (λ k. IsThrown m terms path k u) (same_command d there)
          (subst (λ v. IsThrown m terms path command v) (same_thrown t u place other (same_some (sym ends ∙ ending))) so);
    }
