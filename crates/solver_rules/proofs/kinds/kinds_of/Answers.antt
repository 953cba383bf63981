use Rattle.std.proofs.Common.{◌≡◌, ◌<◌, ℕ, List, length, get_or, Some, slice_get, sym, ap, subst, arith}
use Rattle.std.proofs.lemmas.Option.{slice_get-get_or, slice_get_within}
use Rattle.gil_values.specs.declared.kinds.Kind.{Kind}
use Rattle.pure_terms.specs.declared.variables.Sort.{Sort}
use Rattle.pure_terms.specs.declared.variables.Var.{Var}
use Rattle.pure_terms.specs.Pure.{variable}
use Rattle.equality_core.specs.Values.{IsInTable}
use Rattle.equality_core.proofs.Classing.{in_table}
use Rattle.solver_rules.specs.Nodes.{vars_of, list_of_node, classes_of}
use Rattle.solver_rules.specs.Rules.{HasKind}
use Rattle.solver_rules.proofs.KindsApart.{longer_by_one, each_longer}
use Rattle.solver_rules.proofs.Unsaid.{kind_unsaid}
use Rattle.solver_rules.proofs.kinds.kinds_of.Goals as goal

pub loop-number-preserved : goal.loop-number-preserved
loop-number-preserved c =
    let last : Var = record { number = c.loop-number.number; sort = get_or c.as_slice-sorts.result.now c.loop-number.number Sort.Int } in
    let there : IsInTable (vars_of c.args.node.now) last =
    subst (λ (ss : List Sort). slice_get ss c.loop-number.number ≡ Some (get_or c.as_slice-sorts.result.now c.loop-number.number Sort.Int)) c.as_slice-sorts.ensures (slice_get-get_or c.as_slice-sorts.result.now c.loop-number.number Sort.Int c.loop-number-test.true) in
    let Has : Var → Kind → Type 0 = λ x k. HasKind (classes_of c.args.node.now) (variable x) k in
    record {
      size = longer_by_one (vars_of c.args.node.now) c.push.new.self c.loop-number.kinds c.in-Some.kind c.loop-number.number Has c.in_ok-push-in-Some.ensures.ok c.loop-number.invariant.size;
      each = each_longer (vars_of c.args.node.now) c.push.new.self c.loop-number.kinds c.in-Some.kind c.loop-number.number Has c.in_ok-push-in-Some.ensures.ok c.loop-number.invariant.size
          c.loop-number.invariant.each (λ x e also. subst (λ (y : Var). HasKind (classes_of c.args.node.now) (variable y) c.in-Some.kind) (sym (in_table (vars_of c.args.node.now) x last also there e)) c.in-Some.ensures.found);
    }

pub returns : goal.returns
returns c = record {
  one_each = whole;
  each = λ x k there at. c.loop-number.invariant.each x k (within x.number (slice_get_within (vars_of c.args.node.now) x.number x.sort there)) there at;
} where
  sorts : length c.as_slice-sorts.result.now ≡ length (vars_of c.args.node.now)
  sorts = ap length c.as_slice-sorts.ensures

  whole : length c.loop-number.kinds ≡ length (vars_of c.args.node.now)
  whole = omega (arith, c.loop-number.invariant.size, c.loop-number-test.false, c.loop-number.auto.number-end, sorts)

  within : (n : ℕ) → n < length (vars_of c.args.node.now) → n < c.loop-number.number
  within n h = omega (arith, h, c.loop-number-test.false, sorts)

pub returns-in-None : goal.returns-in-None
returns-in-None c =
    let there : slice_get (vars_of c.args.node.now) c.loop-number.number ≡ Some (get_or c.as_slice-sorts.result.now c.loop-number.number Sort.Int) =
    subst (λ (ss : List Sort). slice_get ss c.loop-number.number ≡ Some (get_or c.as_slice-sorts.result.now c.loop-number.number Sort.Int)) c.as_slice-sorts.ensures (slice_get-get_or c.as_slice-sorts.result.now c.loop-number.number Sort.Int c.loop-number-test.true) in
    record {
      there = there;
      any = c.in-None.ensures.none;
      unsaid = kind_unsaid (vars_of c.args.node.now) (list_of_node c.args.node.now) (classes_of c.args.node.now) c.requires (record { number = c.loop-number.number; sort = get_or c.as_slice-sorts.result.now c.loop-number.number Sort.Int }) c.in-None.ensures.unsaid;
    }
