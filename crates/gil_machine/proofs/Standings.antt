-- What the code's machine stands for, command by command.
use Rattle.std.proofs.Common.{◌≡◌, ℕ, zero, suc, ◌+◌, ◌<◌, ◌^◌, List, [], ◌∷◌, ◌++◌, length, drop, reverse, cond, eqb, Option, Some, None, slice_get, refl, sym, ap, subst, ap₂, ◌∙◌, add-one, arith, Bor}
use Rattle.std.specs.Option.{IfSome, option_map}
use Rattle.std.proofs.lemmas.List.{reverse-append}
use Rattle.std.proofs.lemmas.Option.{slice_get_within}
use Rattle.gil_values.specs.Pure.{PureValue}
use Rattle.gil_syntax.specs.Pure.{PureParts, PureProc}
use Rattle.gil_syntax.specs.Evaluation.{Store, bind, value_of}
use Rattle.gil_machine.specs.declared.control.Control.{Control}
use Rattle.gil_machine.specs.declared.control.Frame.{Frame as KeptFrame}
use Rattle.gil_machine.specs.Kept.{Kept, Keeps, Sets}
use Rattle.gil_machine.specs.SlotNames.{Names, IsTable, name_at}
use Rattle.gil_machine.specs.Standing.{FrameStands, FramesStand, HandlingStands, Stands, Comes}
use Rattle.gil_machine.specs.State.{Frame, State}
use Rattle.gil_machine.specs.Step.{first_frame, enter, resumed, leave, handled_or, handling, bind_all}

-- what is found stands within
pub found_below : {X Y : Type 0} (f : Bor X → Y) (o : Option (Bor X)) (ys : List Y) (i : ℕ) → option_map f o ≡ slice_get ys i → length ys < 2 ^ 64 → IfSome o (λ _. i + 1 < 2 ^ 64)
found_below f None ys i is fits = tt
found_below f (Some x) ys i is fits = let within = slice_get_within ys i (f x) (sym is) in omega (arith, within, fits)

-- what is kept after a value is set keeps the store with that binding
pub sets_keeps : (names : Names) (old new : Kept) (s : Store) (i : ℕ) (v : PureValue) → IsTable names → i < length names → Sets old new i v → Keeps names old s
    → Keeps names new (bind (name_at names i) v s)
sets_keeps names old new s i v table below sets keeps j =
    sets j ∙ ap (cond (eqb i j) (Some v)) (keeps j) ∙ ap (λ b. cond b (Some v) (value_of s (name_at names j))) (sym (table i j below))

-- what stands at a place and behind it
pub drop-found : {X : Type 0} (xs : List X) (i : ℕ) (x : X) → slice_get xs i ≡ Some x → drop i xs ≡ x ∷ drop (i + 1) xs
drop-found xs i x is = from xs i is ∙ ap (λ n. x ∷ drop n xs) (sym (add-one i)) where
  from : (ys : List _) (j : ℕ) → slice_get ys j ≡ Some x → drop j ys ≡ x ∷ drop (suc j) ys
  from [] j is = absurd (cc)
  from (y ∷ ys) zero is = let here : y ≡ x = cc in ap (λ z. z ∷ ys) here
  from (y ∷ ys) (suc j) is = from ys j is

-- the parameters from a place on, each with its value
pub bind_one : (xs : List (List ℕ)) (vs : List PureValue) (i : ℕ) (x : List ℕ) (v : PureValue) → slice_get xs i ≡ Some x → slice_get vs i ≡ Some v
    → bind_all (drop i xs) (drop i vs) ≡ bind x v (bind_all (drop (i + 1) xs) (drop (i + 1) vs))
bind_one xs vs i x v here value = ap₂ bind_all (drop-found xs i x here) (drop-found vs i v value)

-- ---- the end of a call

leave_by : (p : PureParts) (s : State) (v : PureValue) (gs : List Frame) (caller : KeptFrame) (new : Control)
    → FramesStand p (caller ∷ reverse new.callers.items) gs
    → ((g : Frame) → FrameStands p caller g → FrameStands p new.current (resumed g.waits v g))
    → s.counter ≡ new.counter → s.draws ≡ new.draws
    → Comes p None (leave gs v s) None new s.heap
leave_by p s v [] caller new stand resumes counter draws = absurd stand
leave_by p s v (g ∷ gs) caller new stand resumes counter draws = (record { current = resumes g stand.0; callers = stand.1; counter = counter; draws = draws }, refl)

pub leave_comes : (p : PureParts) (s : State) (v : PureValue) (old new : Control) (caller : KeptFrame)
    → old.callers.items ≡ new.callers.items ++ caller ∷ [] → Stands p old s
    → ((g : Frame) → FrameStands p caller g → FrameStands p new.current (resumed g.waits v g))
    → new.counter ≡ old.counter → new.draws ≡ old.draws
    → Comes p None (leave s.callers v s) None new s.heap
leave_comes p s v old new caller rest stands resumes counter draws =
    let frames : reverse old.callers.items ≡ caller ∷ reverse new.callers.items = ap reverse rest ∙ reverse-append new.callers.items (caller ∷ []) in
    leave_by p s v s.callers caller new (subst (λ fs. FramesStand p fs s.callers) frames stands.callers) resumes (stands.counter ∙ sym counter) (stands.draws ∙ sym draws)

-- ---- a throw

-- callers that are left, of which a throw finds the same
abbrev pub SameHandling : PureParts → List KeptFrame → List Frame → Type 0
SameHandling p fs gs = (rest : List Frame) × (FramesStand p fs rest × (handling rest ≡ handling gs))

-- no caller is left
pub none_handles : (p : PureParts) (gs : List Frame) → SameHandling p [] gs → HandlingStands p None [] (handling gs)
none_handles p gs ([], (stand, same)) = subst (HandlingStands p None []) same tt
none_handles p gs (g ∷ rest, (stand, same)) = absurd stand

handled_by : (p : PureParts) (f : KeptFrame) (fs : List KeptFrame) (g : Frame) (gs : List Frame) (i : ℕ) (o : Option ℕ) → o ≡ Some i → FrameStands p f g → FramesStand p fs gs
    → HandlingStands p (Some (i, f)) fs (handled_or o g gs (handling gs))
handled_by p f fs g gs i (Some j) is stands below = let same : j ≡ i = cc in (same, stands, below)
handled_by p f fs g gs i None is stands below = absurd (cc)

-- the latest caller has a handler
pub first_handles : (p : PureParts) (f : KeptFrame) (fs : List KeptFrame) (gs : List Frame) (i : ℕ) → f.handler ≡ Some i → SameHandling p (f ∷ fs) gs
    → HandlingStands p (Some (i, f)) fs (handling gs)
first_handles p f fs gs i is ([], (stand, same)) = absurd stand
first_handles p f fs gs i is (g ∷ rest, (stand, same)) =
    subst (HandlingStands p (Some (i, f)) fs) same (handled_by p f fs g rest i g.handler (stand.0.handler ∙ is) stand.0 stand.1)

-- the latest caller has none
pub first_passes : (p : PureParts) (f : KeptFrame) (fs : List KeptFrame) (gs : List Frame) → f.handler ≡ None → SameHandling p (f ∷ fs) gs → SameHandling p fs gs
first_passes p f fs gs is ([], (stand, same)) = absurd stand
first_passes p f fs gs is (g ∷ rest, (stand, same)) =
    let none : g.handler ≡ None = stand.0.handler ∙ is in
    (rest, (stand.1, sym (ap (λ o. handled_or o g rest (handling rest)) none) ∙ same))

-- ---- the beginning of a call

pub enter_comes : (p : PureParts) (s : State) (q : PureProc) (x : List ℕ) (handler : Option ℕ) (args : List PureValue) (old new : Control) (caller : KeptFrame)
    → new.callers.items ≡ old.callers.items ++ caller ∷ [] → Stands p old s
    → FrameStands p new.current (first_frame q.name q.params args)
    → FrameStands p caller (record s.current { next = s.current.next + 1; waits = Some x; handler = handler })
    → new.counter ≡ old.counter → new.draws ≡ old.draws
    → Comes p None (enter q x handler args s) None new s.heap
enter_comes p s q x handler args old new caller rest stands first waiting counter draws =
    let frames : reverse new.callers.items ≡ caller ∷ reverse old.callers.items = ap reverse rest ∙ reverse-append old.callers.items (caller ∷ []) in (
      record {
        current = first;
        callers = subst (λ fs. FramesStand p fs (record s.current { next = s.current.next + 1; waits = Some x; handler = handler } ∷ s.callers)) (sym frames) (waiting, stands.callers);
        counter = stands.counter ∙ sym counter;
        draws = stands.draws ∙ sym draws;
      },
      refl,
    )
