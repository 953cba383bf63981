-- Lists that are resolved one by one.
use Rattle.std.proofs.Common.{◌≡◌, ℕ, zero, suc, ◌+◌, ◌≤◌, List, [], ◌∷◌, ◌++◌, length, map, take, Some, slice_get, sym, ap, ap₂, ◌∙◌, add-one, rules, arith}
use Rattle.std.proofs.lemmas.List.{map-append, take_all}
use Rattle.gil_machine.specs.declared.resolved.Resolved.{the_lemmas}
use Rattle.gil_machine.specs.declared.resolved.ResolvedList.{ResolvedList}
use Rattle.gil_machine.specs.declared.resolved.ResolvedCommand.{ResolvedCommand}
use Rattle.gil_machine.specs.ResolvedView.{AssignsSlot, resolved_list_view, resolved_view}
use Rattle.gil_machine.specs.SlotNames.{Grows, Names}

take-push : {X : Type 0} (us : List X) (i : ℕ) (u : X) → slice_get us i ≡ Some u → take (suc i) us ≡ take i us ++ u ∷ []
take-push [] i u is = cc
take-push (x ∷ us) zero u is = let here : x ≡ u = cc in ap (λ y. y ∷ []) here
take-push (x ∷ us) (suc i) u is = ap (λ rest. x ∷ rest) (take-push us i u is)

pub seen_more : {X Y : Type 0} (f : X → Y) (xs : List X) (x : X) (ys : List Y) (i : ℕ) (y : Y) → map f xs ≡ take i ys → slice_get ys i ≡ Some y → f x ≡ y → map f (xs ++ x ∷ []) ≡ take (i + 1) ys
seen_more f xs x ys i y so_far is same =
    map-append f xs (x ∷ []) ∙ ap₂ (λ a b. a ++ b ∷ []) so_far same ∙ sym (ap (λ n. take n ys) (add-one i) ∙ take-push ys i y is)

pub seen_whole : {X Y : Type 0} (f : X → Y) (xs : List X) (ys : List Y) (i : ℕ) → map f xs ≡ take i ys → length ys ≤ i → map f xs ≡ ys
seen_whole f xs ys i so_far past = so_far ∙ take_all i ys past

pub resolved_list-items : (names : Names) (rs : ResolvedList) → resolved_list_view names rs ≡ map (resolved_view names) rs.items.items
resolved_list-items names rs = search (rules, the_lemmas)

-- what is placed stays so where slots are added
pub placed_more : (old new : Names) → Grows old new → (c : ResolvedCommand) → AssignsSlot old c → AssignsSlot new c
placed_more old new grows (ResolvedCommand.Assign i e) below = let longer = grows.longer in omega (arith, below, longer)
placed_more old new grows (ResolvedCommand.Call i e es handler) below = let longer = grows.longer in omega (arith, below, longer)
placed_more old new grows (ResolvedCommand.Act i a es) below = let longer = grows.longer in omega (arith, below, longer)
placed_more old new grows (ResolvedCommand.Usym i) below = let longer = grows.longer in omega (arith, below, longer)
placed_more old new grows (ResolvedCommand.Isym i k) below = let longer = grows.longer in omega (arith, below, longer)
placed_more old new grows (ResolvedCommand.IfGoto e i) placed = tt
placed_more old new grows (ResolvedCommand.Return e) placed = tt
placed_more old new grows (ResolvedCommand.Fail e) placed = tt
placed_more old new grows (ResolvedCommand.Throw e) placed = tt
placed_more old new grows ResolvedCommand.Vanish placed = tt
placed_more old new grows (ResolvedCommand.Fold u) placed = tt
placed_more old new grows (ResolvedCommand.Unfold u) placed = tt
placed_more old new grows (ResolvedCommand.AssertThat items) placed = tt
placed_more old new grows (ResolvedCommand.LoopInvariant xs ps items) placed = tt
