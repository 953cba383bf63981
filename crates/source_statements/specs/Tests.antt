-- Conditions and loops, whatever values conditions have.
use Rattle.std.specs.Prelude.{ℕ, zero, suc}
use Rattle.source_language.specs.Completions.{Situation, Completion, normal, unfinished, then_do}

-- What a condition comes to, from what follows where it holds and what follows where it doesn't. It may fail, do actions, or be
-- unfinished.
abbrev pub Test : Type 0
Test = Situation → (Situation → Completion) → (Situation → Completion) → Completion

-- A loop that is tested at most so many times: before each turn, and where the condition doesn't hold, what follows the loop follows.
abbrev pub turns : ℕ → Test → (Situation → Completion) → Situation → Completion
turns zero test body s = unfinished
turns (suc n) test body s = test s (λ t. then_do (body t) (turns n test body)) (λ t. normal t)
