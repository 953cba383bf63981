-- The commands that find a cell do what is meant.
use Rattle.std.proofs.Common.{◌≡◌, ◌≢◌, ℕ, ◌+◌, List, [], Bool, true, false, cond, not, Some, Ok, Err, refl, sym, ap, subst, ◌∙◌, arith}
use Rattle.std.specs.Prelude.{codes}
use Rattle.gil_values.specs.declared.kinds.Kind.TheVariants.{Null}
use Rattle.gil_values.specs.declared.operators.BinOp.TheVariants.{Equal, Nth, Add}
use Rattle.gil_values.specs.declared.operators.UnOp.TheVariants.{Not}
use Rattle.gil_values.specs.Equality.{same_value}
use Rattle.gil_values.specs.Operators.{Outcome, unary, binary}
use Rattle.gil_values.specs.Pure.{PureValue, boolean, text, kind}
use Rattle.gil_syntax.specs.Pure.{PureExpr, name, unary_of, binary_of, PureProc, PureParts}
use Rattle.gil_syntax.specs.Programs.{find_proc}
use Rattle.gil_syntax.specs.Evaluation.{Store, bind, value_of, set_or_fault, evaluate, after_value, as_list, both}
use Rattle.mem_model.specs.Actions.{Actions}
use Rattle.gil_machine.specs.State.{Frame}
use Rattle.source_language.specs.Completions.{Situation, Completion, fails, with_value}
use Rattle.source_language.specs.Names.{temporary, IsExtendedBy}
use Rattle.source_language.specs.Procedures.{null}
use Rattle.source_language.proofs.Following.{Here, Catcher}
use Rattle.source_language.proofs.Stores.{bound_value, other_temporary_value, extended_more}
use Rattle.source_language.proofs.Stretches.{HasAt}
use Rattle.source_operators.specs.Operands.{Operand, read}
use Rattle.source_operators.proofs.Leaving.{Keeps, keeps_then, Stands, stands_for, stands_on}
use Rattle.source_operators.proofs.Steps as at_commands
use Rattle.source_operators.proofs.Steps.{keeps_bound, value_then_value, at_label, jumps_to, passes, jump_fails, assigns, fails_here}
use Rattle.clike_operators.specs.Codes.{number_literal, cell_code, address_expr}
use Rattle.clike_operators.specs.Meaning.{cell_of, address}
use Rattle.clike_operators.specs.Ranges.{number}

-- the address in two temporaries
pub address_value : (i : ℕ) (block cell : PureValue) (store : Store) → value_of store (temporary i) ≡ Some block
    → value_of store (temporary (i + 1)) ≡ Some cell → evaluate (address_expr i) store ≡ Ok (address block cell)
address_value i block cell store first second = λ k. as_list (both (set_or_fault (first k)) (both (set_or_fault (second k)) (Ok [])))

module _ (p : PureParts) (m : Actions) (inputs : List PureValue) (f : List ℕ) (q : PureProc) (found : find_proc p.procs f ≡ Some q)
    (callers : List Frame) (catcher : Catcher) (some end : ℕ) where
  abbrev RunsAt : ℕ → Store → Situation → Completion → Type 0
  RunsAt pc store s c = at_commands.RunsAt p m inputs f q found callers catcher some end pc store s c

  module _ (pc at i : ℕ) (a b : Operand) (d e : PureExpr) (store : Store) (s : Situation) (ext : IsExtendedBy s.store store)
      (stands : Stands a d i store) (stands' : Stands b e i store) (has : HasAt q.body pc (cell_code pc at i d e))
      (go : PureValue → PureValue → Completion)
      (next : (block cell : PureValue) (more : Store) → IsExtendedBy s.store more → Keeps i store more
      → value_of more (temporary i) ≡ Some block → value_of more (temporary (i + 1)) ≡ Some cell → RunsAt (pc + 5) more s (go block cell)) where
    -- what follows where the pointer is not NULL
    abbrev rest : PureValue → Completion
    rest pointer = with_value (binary Nth pointer (number 0)) (Here f at) s
        (λ block. with_value (binary Nth pointer (number 1)) (Here f at) s
        (λ start. with_value (read b s.store) (Here f at) s
        (λ offset. with_value (binary Add start offset) (Here f at) s (λ cell. go block cell))))

    rest_runs : (pointer : PureValue) → evaluate d store ≡ Ok pointer → RunsAt (pc + 1 + 1) store s (rest pointer)
    rest_runs pointer is =
        assigns p m inputs f q found callers catcher some end (pc + 1 + 1) at i (binary_of Nth d (number_literal 0)) store s (binary Nth pointer (number 0)) _ has.1.1.0
        (ap (λ r. after_value r (λ v. binary Nth v (number 0))) is) with_block
      where
        is_read : read a s.store ≡ Ok pointer
        is_read = sym (stands_for a d i s.store store ext stands) ∙ is

        with_block : (block : PureValue) → RunsAt (pc + 1 + 1 + 1) (bind (temporary i) block store) s
            (with_value (binary Nth pointer (number 1)) (Here f at) s
            (λ start. with_value (read b s.store) (Here f at) s
            (λ offset. with_value (binary Add start offset) (Here f at) s (λ cell. go block cell))))
        with_block block =
            assigns p m inputs f q found callers catcher some end (pc + 1 + 1 + 1) at (i + 1) (binary_of Nth d (number_literal 1)) store1 s (binary Nth pointer (number 1)) _ has.1.1.1.0
            (ap (λ r. after_value r (λ v. binary Nth v (number 1)))
            (stands_for a d i s.store store1 ext1 (stands_on a d i i store store1 (omega arith) keeps1 stands) ∙ is_read))
            with_start
          where
            store1 : Store
            store1 = bind (temporary i) block store

            ext1 : IsExtendedBy s.store store1
            ext1 = extended_more i block s.store store ext

            keeps1 : Keeps i store store1
            keeps1 = keeps_bound i i block store (omega arith)

            with_start : (start : PureValue) → RunsAt (pc + 1 + 1 + 1 + 1) (bind (temporary (i + 1)) start store1) s
                (with_value (read b s.store) (Here f at) s (λ offset. with_value (binary Add start offset) (Here f at) s (λ cell. go block cell)))
            with_start start =
                subst (RunsAt (pc + 1 + 1 + 1 + 1) store2 s) (value_then_value (read b s.store) (binary Add start) (Here f at) s (λ cell. go block cell))
                (assigns p m inputs f q found callers catcher some end (pc + 1 + 1 + 1 + 1) at (i + 1) (binary_of Add (name (temporary (i + 1))) e) store2 s
                (after_value (read b s.store) (binary Add start)) (λ cell. go block cell) has.1.1.1.1.0 sum_is with_cell)
              where
                store2 : Store
                store2 = bind (temporary (i + 1)) start store1

                ext2 : IsExtendedBy s.store store2
                ext2 = extended_more (i + 1) start s.store store1 ext1

                keeps2 : Keeps i store store2
                keeps2 = keeps_then i store store1 store2 keeps1 (keeps_bound i (i + 1) start store1 (omega arith))

                sum_is : evaluate (binary_of Add (name (temporary (i + 1))) e) store2 ≡ after_value (read b s.store) (binary Add start)
                sum_is =
                    ap (λ r. after_value r (λ v. after_value (evaluate e store2) (binary Add v))) (ap set_or_fault (bound_value (temporary (i + 1)) start store1))
                    ∙ ap (λ r. after_value r (binary Add start)) (stands_for b e i s.store store2 ext2 (stands_on b e i i store store2 (omega arith) keeps2 stands'))

                with_cell : (cell : PureValue) → RunsAt (pc + 1 + 1 + 1 + 1 + 1) (bind (temporary (i + 1)) cell store2) s (go block cell)
                with_cell cell =
                    at_label p m inputs f q found callers catcher some end (pc + 5) (pc + 1 + 1 + 1 + 1 + 1) store3 s (go block cell) (omega arith)
                    (next block cell store3 (extended_more (i + 1) cell s.store store2 ext2)
                    (keeps_then i store store2 store3 keeps2 (keeps_bound i (i + 1) cell store2 (omega arith)))
                    (other_temporary_value (i + 1) i cell store2 apart ∙ other_temporary_value (i + 1) i start store1 apart ∙ bound_value (temporary i) block store)
                    (bound_value (temporary (i + 1)) cell store2))
                  where
                    store3 : Store
                    store3 = bind (temporary (i + 1)) cell store2

                    apart : i + 1 ≢ i
                    apart = omega arith

    abbrev found_or_null : PureValue → Completion
    found_or_null pointer = cond (same_value pointer (kind Null)) (fails (text (codes "null")) (Here f at) s) (rest pointer)

    by_null : (pointer : PureValue) (is_null : Bool) → evaluate d store ≡ Ok pointer → same_value pointer (kind Null) ≡ is_null
        → RunsAt pc store s (cond is_null (fails (text (codes "null")) (Here f at) s) (rest pointer))
    by_null pointer true is same =
        passes p m inputs f q found callers catcher some end pc (pc + 2) at (unary_of Not (binary_of Equal d null)) store s (fails (text (codes "null")) (Here f at) s) has.0
        (ap (λ r. after_value (after_value r (λ v. binary Equal v (kind Null))) (unary Not)) is ∙ ap (λ x. Ok (boolean (not x))) same)
        (fails_here p m inputs f q found callers catcher some end (pc + 1) at (text (codes "null")) store s has.1.0)
    by_null pointer false is same =
        jumps_to p m inputs f q found callers catcher some end pc (pc + 2) at (unary_of Not (binary_of Equal d null)) store s (rest pointer) has.0
        (ap (λ r. after_value (after_value r (λ v. binary Equal v (kind Null))) (unary Not)) is ∙ ap (λ x. Ok (boolean (not x))) same)
        (at_label p m inputs f q found callers catcher some end (pc + 1 + 1) (pc + 2) store s (rest pointer) (omega arith) (rest_runs pointer is))

    by_outcome : (o : Outcome) → evaluate d store ≡ o → RunsAt pc store s (with_value o (Here f at) s found_or_null)
    by_outcome (Ok pointer) is = by_null pointer (same_value pointer (kind Null)) is refl
    by_outcome (Err fault) is =
        jump_fails p m inputs f q found callers catcher some end pc (pc + 2) at (unary_of Not (binary_of Equal d null)) store s fault found_or_null has.0
        (ap (λ r. after_value (after_value r (λ v. binary Equal v (kind Null))) (unary Not)) is)

    pub cell_runs : RunsAt pc store s (cell_of a b (Here f at) s go)
    cell_runs = subst (λ o. RunsAt pc store s (with_value o (Here f at) s found_or_null)) (stands_for a d i s.store store ext stands) (by_outcome (evaluate d store) refl)
