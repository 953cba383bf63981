-- The statements of a block as pure data, where its list is known.
use Rattle.std.proofs.Common.{◌≡◌, [], ◌∷◌, ◌++◌, map, sym, ap, ◌∙◌}
use Rattle.std.proofs.lemmas.List.{map_push}
use Rattle.source_statements.specs.declared.tree.Block.{Block}
use Rattle.source_statements.specs.declared.tree.PlacedStatement.{PlacedStatement}
use Rattle.source_statements.specs.Items.{statements}
use Rattle.source_statements.specs.Pure.{no_statements, from_placed}
use Rattle.source_statements.specs.View.{placed_view, placed_statements_view, block_view}
use Rattle.source_statements.proofs.Counts.{statements-seen}

module _ {E S PE PS : Type 0} (e : E → PE) (s : S → PS) where
  pub none_seen : (b : Block E S) → statements b ≡ [] → placed_statements_view e s b ≡ []
  none_seen b none = statements-seen e s b ∙ ap (map (placed_view e s)) none

  pub empty_seen : (b : Block E S) → statements b ≡ [] → block_view e s b ≡ no_statements
  empty_seen b none = ap from_placed (none_seen b none)

  pub one_more_seen : (b c : Block E S) (p : PlacedStatement E S) → statements c ≡ statements b ++ p ∷ []
      → placed_statements_view e s c ≡ placed_statements_view e s b ++ placed_view e s p ∷ []
  one_more_seen b c p is =
      statements-seen e s c ∙ ap (map (placed_view e s)) is ∙ map_push (placed_view e s) (statements b) p
      ∙ ap (λ ps. ps ++ placed_view e s p ∷ []) (sym (statements-seen e s b))
