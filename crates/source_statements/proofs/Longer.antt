-- What statements have come to, they come to with more turns of loops and deeper calls too.
use Rattle.std.proofs.Common.{ℕ, zero, suc, ◌≤◌, List, refl, arith}
use Rattle.gil_values.specs.declared.places.Place.{Place}
use Rattle.gil_values.specs.Pure.{PureValue}
use Rattle.source_language.specs.Completions.{Situation, Completion, sets}
use Rattle.source_language.proofs.Longer.{Extends, then-extends, handled-extends}
use Rattle.source_statements.specs.Meaning.{Meanings, statement, block}
use Rattle.source_statements.specs.Pure.{PureStatement, simple, assert, assume, if_else, while, return, logic, try_catch, PureBlock, no_statements, statement_and}
use Rattle.source_statements.specs.Tests.{Test, turns}
use Rattle.source_statements.specs.Values.{Continuation}

-- what follows the second test extends what follows the first one, where what follows where it holds does, and where it doesn't
abbrev pub TestExtends : Test → Test → Type 0
TestExtends test test' = (s : Situation) (on on' off off' : Situation → Completion) → ((t : Situation) → Extends (on t) (on' t))
    → ((t : Situation) → Extends (off t) (off' t)) → Extends (test s on off) (test' s on' off')

pub turns-extend : (test test' : Test) (body body' : Situation → Completion) → TestExtends test test'
    → ((s : Situation) → Extends (body s) (body' s)) → (n k : ℕ) → n ≤ k → (s : Situation)
    → Extends (turns n test body s) (turns k test' body' s)
turns-extend test test' body body' tests more zero k le s = tt
turns-extend test test' body body' tests more (suc n) zero le s = absurd (omega arith)
turns-extend test test' body body' tests more (suc n) (suc k) le s =
    tests s _ _ _ _
    (λ t. then-extends (body t) (body' t) _ _ (more t) (turns-extend test test' body body' tests more n k (omega arith)))
    (λ t. refl)

-- what a language says of its expressions and simple statements with more turns and deeper calls
pub record MeaningsExtend {E S : Type 0} (k k' : Meanings E S) : Type 0 where
  pub test : (e : E) (here : Place) → TestExtends (k.test e here) (k'.test e here)
  pub value : (e : E) (here : Place) (s : Situation) (go go' : Continuation) → ((v : PureValue) (t : Situation) → Extends (go v t) (go' v t))
      → Extends (k.value e here s go) (k'.value e here s go')
  pub simple : (c : S) (here : Place) (s : Situation) → Extends (k.simple c here s) (k'.simple c here s)

module _ {E S : Type 0} (k k' : Meanings E S) (extend : MeaningsExtend k k') (n n' : ℕ) (le : n ≤ n') where
  mutual
    statement-extends : (c : PureStatement E S) (here : Place) (s : Situation) → Extends (statement k n c here s) (statement k' n' c here s)
    statement-extends (simple c) here s = extend.simple c here s
    statement-extends (assert e) here s = extend.test e here s _ _ _ _ (λ t. refl) (λ t. refl)
    statement-extends (assume e) here s = extend.test e here s _ _ _ _ (λ t. refl) (λ t. refl)
    statement-extends (if_else e on off) here s =
        extend.test e here s _ _ _ _ (λ t. block-extends here.proc on t) (λ t. block-extends here.proc off t)
    statement-extends (while e invariant body) here s =
        turns-extend (k.test e here) (k'.test e here) _ _ (extend.test e here) (λ t. block-extends here.proc body t) n n' le s
    statement-extends (return e) here s = extend.value e here s _ _ (λ v t. refl)
    statement-extends (logic c) here s = refl
    statement-extends (try_catch body y handler) here s =
        handled-extends _ _ _ _ (block-extends here.proc body s) (λ v t. block-extends here.proc handler (sets y v t))

    pub block-extends : (f : List ℕ) (b : PureBlock E S) (s : Situation) → Extends (block k n f b s) (block k' n' f b s)
    block-extends f no_statements s = refl
    block-extends f (statement_and at c rest) s =
        then-extends _ _ _ _ (statement-extends c (record { proc = f; at = at }) s) (λ t. block-extends f rest t)
