-- What is answered of specifications, place by place.
use Rattle.std.specs.Prelude.{◌≡◌, ℕ, List, [], ◌∷◌, ◌++◌}
use Rattle.spec_dependencies.specs.declared.entries.Entry.{Entry}
use Rattle.spec_dependencies.specs.declared.entries.Standing.{Standing}
use Rattle.spec_answers.specs.declared.answers.Examined.{Examined}
use Rattle.spec_answers.specs.declared.answers.Finding.{Finding}
use Rattle.spec_answers.specs.declared.answers.SpecAnswer.{SpecAnswer}
use Rattle.spec_answers.specs.declared.answers.Verdict.{Verdict}

-- the names of the specifications that are used
abbrev pub uses_of : {C : Type 0} → Finding C → List (List ℕ)
uses_of (Finding.Clean xs) = xs
uses_of _ = []

abbrev pub standing_of : {C : Type 0} → Finding C → Standing
standing_of (Finding.Caused c) = Standing.Caused
standing_of _ = Standing.Sound

abbrev pub entry_of : {C : Type 0} → Examined C → Entry
entry_of x = record { name = x.name; uses = uses_of x.finding; standing = standing_of x.finding }

abbrev pub clean_verdict : {C : Type 0} → Standing → Verdict C
clean_verdict (Standing.Depends g) = Verdict.DependsOn g
clean_verdict _ = Verdict.Verified

abbrev pub verdict_of : {C : Type 0} → Finding C → Standing → Verdict C
verdict_of (Finding.Clean xs) s = clean_verdict s
verdict_of (Finding.Vacuous proof) s = Verdict.Vacuous proof
verdict_of (Finding.Caused c) s = Verdict.Unproved c

abbrev pub answer_of : {C : Type 0} → Examined C → Entry → SpecAnswer C
answer_of x e = record { name = x.name; verdict = verdict_of x.finding e.standing }

abbrev pub answers_of : {C : Type 0} → List (Examined C) → List Entry → List (SpecAnswer C)
answers_of (x ∷ xs) (e ∷ es) = answer_of x e ∷ answers_of xs es
answers_of _ _ = []

-- the answers to what was examined, and one more
abbrev pub AddsAnswer : {C : Type 0} → Examined C → List Entry → List (SpecAnswer C) → List (SpecAnswer C) → Type 0
AddsAnswer {C = C} x es before after = (xs : List (Examined C)) → before ≡ answers_of xs es → after ≡ answers_of (xs ++ x ∷ []) es
