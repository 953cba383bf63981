-- Reading assertions in braces one after another, as a loop does.
use Rattle.std.proofs.Common.{◌≡◌, ℕ, suc, ◌-◌, ◌+◌, ◌≤◌, ◌<◌, true, false, List, [], ◌∷◌, ◌++◌, Option, Some, None, refl, sym, ap, ◌∙◌, append_assoc, arith, subst, map, Result}
use Rattle.std.proofs.lemmas.List.{append-nil}
use Rattle.gil_lexemes.specs.declared.standing.Lexeme.{Lexeme}
use Rattle.gil_lexemes.specs.Lists.{with_front}
use Rattle.gil_lexemes.specs.declared.stops.Stop.{Stop}
use Rattle.gil_lexemes.specs.declared.stops.Stop.TheVariants as stops
use Rattle.gil_syntax.specs.declared.assertions.Item.{Item}
use Rattle.gil_syntax.specs.View.{assertion_view}
use Rattle.gil_text.specs.Blocks.{GivesWithout}
use Rattle.gil_lexemes.specs.Reading.{Reading, Gives, Fails, ◌>>=◌, first_form}
use Rattle.gil_lexemes.proofs.ListReading.{regroup}
use Rattle.gil_syntax.specs.Pure.{PureItem}
use Rattle.gil_grammar.specs.declared.positions.Extent.{Extent}
use Rattle.gil_grammar.specs.declared.positions.Opening.{Opening}
use Rattle.gil_grammar.specs.Reading.Assertions.{opens_by, opened_at, without_block, more_blocks}

module _ (opening : Opening) (extent : Extent) (front : List (List PureItem)) (n i : ℕ) (ls : List Lexeme) (total : Reading (List (List PureItem))) where
  pub blocks_go_on : (x : List PureItem) (after : List Lexeme) → i < n → opens_by opening (first_form ls) ≡ true → opened_at opening ls ≡ Some (x, after)
      → with_front front (more_blocks opening extent (n - i) ls) ≡ total → with_front (front ++ x ∷ []) (more_blocks opening extent (n - (i + 1)) after) ≡ total
  unfolding more_blocks
  blocks_go_on x after lt test h so_far =
      let k : n - i ≡ suc (n - (i + 1)) = omega arith in
      let one : with_front front (more_blocks opening extent (n - i) ls) ≡ with_front (front ++ x ∷ []) (more_blocks opening extent (n - (i + 1)) after) = rw (k, test, h) (regroup front x (more_blocks opening extent (n - (i + 1)) after)) in
      sym one ∙ so_far

  pub blocks_without : i < n → opens_by opening (first_form ls) ≡ true → opened_at opening ls ≡ None
      → with_front front (more_blocks opening extent (n - i) ls) ≡ total → with_front front (without_block extent ls) ≡ total
  unfolding more_blocks
  blocks_without lt test h so_far =
      let k : n - i ≡ suc (n - (i + 1)) = omega arith in
      let one : with_front front (more_blocks opening extent (n - i) ls) ≡ with_front front (without_block extent ls) = rw (k, test, h) refl in
      sym one ∙ so_far

  pub blocks_end : i < n → opens_by opening (first_form ls) ≡ false → with_front front (more_blocks opening extent (n - i) ls) ≡ total → total ≡ Some (front, ls)
  unfolding more_blocks
  blocks_end lt test so_far =
      let k : n - i ≡ suc (n - (i + 1)) = omega arith in
      let one : with_front front (more_blocks opening extent (n - i) ls) ≡ Some (front, ls) = rw (k, test) (ap (λ xs. Some (xs, ls)) (append-nil front)) in
      sym so_far ∙ one

  pub blocks_are_done : n ≤ i → with_front front (more_blocks opening extent (n - i) ls) ≡ total → total ≡ Some (front, ls)
  unfolding more_blocks
  blocks_are_done le so_far =
      let k : n - i ≡ 0 = omega arith in
      let one : with_front front (more_blocks opening extent (n - i) ls) ≡ Some (front, ls) = rw k (ap (λ xs. Some (xs, ls)) (append-nil front)) in
      sym so_far ∙ one

-- where an assertion in braces isn't read
pub without_gives : (opening : Opening) (extent : Extent) (stop : Stop) (result : Result (List (List Item) × List Lexeme) Stop) (front : List (List PureItem)) (rest : List Lexeme) (total : Reading (List (List PureItem)))
    → GivesWithout extent stop result front rest → Fails stop (opened_at opening rest) → (opened_at opening rest ≡ None → with_front front (without_block extent rest) ≡ total)
    → Gives (λ (found : List (List Item) × List Lexeme). (map assertion_view found.0, found.1)) result total
without_gives opening extent stops.Memory result front rest total given stopped so_far = rw given tt
without_gives opening extent (stops.Syntax left) result front rest total given stopped so_far =
    subst (λ read. Gives (λ (found : List (List Item) × List Lexeme). (map assertion_view found.0, found.1)) result read) (so_far stopped) given
