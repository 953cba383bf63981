-- Statements whose names are resolved, one more at a time.
use Rattle.std.proofs.Common.{◌≡◌, ℕ, ◌+◌, ◌<◌, List, [], ◌∷◌, ◌++◌, map, take, get_or, length, Bool, ◌||◌, refl, sym, ap, ◌∙◌}
use Rattle.std.proofs.lemmas.List.{map_push}
use Rattle.std.proofs.lemmas.List.Recursion.{or_push}
use Rattle.gil_syntax.proofs.NameLemmas.{map-take_read}
use Rattle.source_operators.specs.declared.trees.Expression.{Expression}
use Rattle.source_statements.specs.Items.{statements}
use Rattle.source_statements.specs.Pure.{PurePlacedStatement, statement_and, from_placed}
use Rattle.source_statements.specs.View as views
use Rattle.source_statements.specs.declared.tree.Block.{Block}
use Rattle.source_statements.specs.declared.tree.PlacedStatement.{PlacedStatement}
use Rattle.source_statements.proofs.Counts.{placed-seen, statements-seen}
use Rattle.object_operators.specs.declared.trees.Prefix.{Prefix}
use Rattle.object_operators.specs.declared.trees.Joint.{Joint}
use Rattle.object_operators.specs.Pure.{PureExpression}
use Rattle.object_lang.specs.Pure.{PureSimple}
use Rattle.object_lang.specs.Resolved.{statement_assigns, block_assigns, resolved_statement, resolved_block}
use Rattle.object_lang.specs.View.{expression_view, simple_view, statement_view, block_view}
use Rattle.object_lang.specs.declared.tree.SimpleStatement.{SimpleStatement}

abbrev pub Placed : Type 0
Placed = PlacedStatement (Expression Prefix Joint) SimpleStatement

abbrev pub PurePlaced : Type 0
PurePlaced = PurePlacedStatement PureExpression PureSimple

abbrev pub placed_view : Placed → PurePlaced
placed_view p = views.placed_view expression_view simple_view p

-- a statement whose names are resolved, with its place
abbrev pub resolved_placed : (List ℕ → Bool) → PurePlaced → PurePlaced
resolved_placed is p = record { at = p.at; statement = resolved_statement is p.statement }

pub resolved-list : (is : List ℕ → Bool) (ps : List PurePlaced) → resolved_block is (from_placed ps) ≡ from_placed (map (resolved_placed is) ps)
resolved-list is [] = refl
resolved-list is (p ∷ ps) = ap (λ b. statement_and p.at (resolved_statement is p.statement) b) (resolved-list is ps)

assigns-push : (x : List ℕ) (ps : List PurePlaced) (p : PurePlaced)
    → block_assigns x (from_placed (ps ++ p ∷ [])) ≡ (block_assigns x (from_placed ps) || statement_assigns x p.statement)
assigns-push x ps p = or_push (λ qs. block_assigns x (from_placed qs)) (λ q. statement_assigns x q.statement) refl (λ q qs. refl) ps p

module _ (items : List Placed) (i : ℕ) (c : Placed) (below : i < length items) (is : c ≡ get_or items i c) where
  taken : map placed_view (take (i + 1) items) ≡ map placed_view (take i items) ++ record { at = c.at; statement = statement_view c.statement } ∷ []
  taken = map-take_read placed_view items i c below is ∙ ap (λ p. map placed_view (take i items) ++ p ∷ []) (placed-seen expression_view simple_view c)

  pub assigns-next : (x : List ℕ) → block_assigns x (from_placed (map placed_view (take (i + 1) items)))
      ≡ (block_assigns x (from_placed (map placed_view (take i items))) || statement_assigns x (statement_view c.statement))
  assigns-next x = ap (λ ps. block_assigns x (from_placed ps)) taken ∙ assigns-push x (map placed_view (take i items)) _

  -- a list of resolved statements, and one more
  pub resolved-next : (resolves : List ℕ → Bool) (old more : List Placed) (p : Placed)
      → map placed_view old ≡ map (resolved_placed resolves) (map placed_view (take i items)) → more ≡ old ++ p ∷ [] → p.at ≡ c.at
      → statement_view p.statement ≡ resolved_statement resolves (statement_view c.statement)
      → map placed_view more ≡ map (resolved_placed resolves) (map placed_view (take (i + 1) items))
  resolved-next resolves old more p before push place same =
      ap (map placed_view) push
      ∙ map_push placed_view old p
      ∙ (λ k. before k ++ seen k ∷ [])
      ∙ sym (map_push (resolved_placed resolves) (map placed_view (take i items)) (record { at = c.at; statement = statement_view c.statement }))
      ∙ ap (map (resolved_placed resolves)) (sym taken)
    where
      seen : placed_view p ≡ record { at = c.at; statement = resolved_statement resolves (statement_view c.statement) }
      seen = placed-seen expression_view simple_view p ∙ (λ k. record { at = place k; statement = same k })

pub resolved-whole : (resolves : List ℕ → Bool) (b more : Block (Expression Prefix Joint) SimpleStatement)
    → map placed_view (statements more) ≡ map (resolved_placed resolves) (map placed_view (statements b))
    → block_view more ≡ resolved_block resolves (block_view b)
resolved-whole resolves b more same =
    ap from_placed (statements-seen expression_view simple_view more ∙ same ∙ ap (map (resolved_placed resolves)) (sym (statements-seen expression_view simple_view b)))
    ∙ sym (resolved-list resolves (views.placed_statements_view expression_view simple_view b))
