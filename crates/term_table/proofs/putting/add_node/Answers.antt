use Rattle.std.proofs.Common.{map, subst, sym}
use Rattle.pure_terms.specs.View.{term_view}
use Rattle.term_table.proofs.TableLaws.{found_named, pushed_table, pushed_named, pushed_keeps, taken_back}
use Rattle.term_table.specs.Tables.{Keeps}
use Rattle.term_table.proofs.putting.add_node.Goals as goal

pub returns-then-not-is_new-clause-named : goal.returns-then-not-is_new-clause-named
returns-then-not-is_new-clause-named c =
    let s = c.in_ok-index.ensures.stored in
    found_named _ _ _ c.args.node c.requires.built.0 _ c.in_ok-index.is_new c.requires.table c.requires.built.1 c.requires.built.2
    c.in_ok-index.ensures.keys c.in_ok-index.ensures.added _ c.in_ok-index.index s.0 c.at-id.ensures c.if-not-is_new.true s.1 s.2

pub returns-in-Ok-clause-table : goal.returns-in-Ok-clause-table
returns-in-Ok-clause-table c =
    pushed_table _ _ _ c.args.node c.requires.built.0 _ c.in_ok-index.is_new c.requires.table c.requires.built.1 c.requires.built.2
    c.in_ok-index.ensures.keys c.in_ok-index.ensures.added _ c.if-not-is_new.false c.insert_full.ensures.unique c.in-Ok.ensures.ok

pub returns-in-Ok-clause-kept : goal.returns-in-Ok-clause-kept
returns-in-Ok-clause-kept c = subst (Keeps (map term_view c.args.tables.now.terms.items)) (sym c.in-Ok.ensures.ok) (pushed_keeps _ _)

pub returns-in-Ok-clause-named : goal.returns-in-Ok-clause-named
returns-in-Ok-clause-named c =
    let s = c.in_ok-index.ensures.stored in
    pushed_named _ _ _ c.args.node c.requires.built.0 _ c.in_ok-index.is_new c.requires.table c.requires.built.1 c.requires.built.2
    c.in_ok-index.ensures.keys c.in_ok-index.ensures.added _ _ c.in_ok-index.index s.0 c.at-id.ensures (returns-in-Ok-clause-table c) c.in-Ok.ensures.ok s.1 s.2

pub returns-in-Err-clause-table : goal.returns-in-Err-clause-table
returns-in-Err-clause-table c =
    taken_back _ _ _ c.args.node c.requires.built.0 _ c.in_ok-index.is_new c.requires.table c.requires.built.1 c.requires.built.2
    c.in_ok-index.ensures.keys c.in_ok-index.ensures.added _ _ c.if-not-is_new.false c.take_back.ensures.last c.in-Err.ensures.err
