-- The laws, from the table to the branches of the code.
use Rattle.std.proofs.Common.{◌≡◌, ℕ, List, map, Option, refl, sym, subst}
use Rattle.mem_model.specs.declared.keys.MemoryName.TheVariants.{Block}
use Rattle.pure_terms.specs.declared.variables.Var.{Var}
use Rattle.pure_terms.specs.Pure.{PureTerm}
use Rattle.block_heap.specs.Names.{action_of}
use Rattle.block_heap.specs.Table.{block_actions}
use Rattle.block_sym.specs.declared.states.BlockSym.{BlockSym}
use Rattle.block_sym.specs.Plain.{block_stands, block_terms, block_plain, block_kept, block_asked, block_depends, chunks_depend}
use Rattle.block_sym.specs.Table.{table}
use Rattle.block_sym.specs.View.{state_view, block_branches_view}
use Rattle.core_uses.specs.Kept.{AreKept}
use Rattle.sym_model.specs.declared.branches.Branch.{Branch}
use Rattle.sym_model.specs.Chunks.{StandFor, terms_of}
use Rattle.sym_model.specs.Cores.{MissesItsOwn}
use Rattle.sym_model.specs.Forms.{OpenWhatMatters}
use Rattle.sym_model.specs.Laws.{MayBeAsked, ActLaw, ActsPlainly}
use Rattle.sym_model.specs.Lists.{Each}
use Rattle.sym_model.specs.Plain.{IsPlainState}
use Rattle.sym_model.specs.View.{branches_view}
use Rattle.sym_chunks.proofs.Wrapping.{each_seen, wrapped_law, wrapped_opens}
use Rattle.block_sym.proofs.FormLaws.{table_depends}
use Rattle.block_sym.proofs.Law.{table_law, table_plain, table_keeps, table_misses}

module _ (action : List ℕ) (fresh : Option Var) (args : List PureTerm) (s : BlockSym) (bs : List (Branch BlockSym)) (are : block_branches_view bs ≡ table (action_of action) fresh args (state_view s)) where
  module _ (asked : MayBeAsked block_actions action fresh args (block_terms s)) where
    pub act_law : ActLaw block_stands block_terms block_actions action fresh args (block_asked action args) s (branches_view bs)
    act_law =
        wrapped_law state_view Block s (branches_view bs) block_actions action fresh args (block_asked action args)
        (subst (ActLaw (StandFor Block) terms_of block_actions action fresh args (block_asked action args) (state_view s)) (sym are) (table_law (action_of action) action fresh args (state_view s) refl asked))

    pub acts_plainly : ActsPlainly block_plain action args s (branches_view bs)
    acts_plainly low high plain arguments =
        each_seen state_view _ _ (λ b is. is) (branches_view bs)
        (subst (ActsPlainly (λ ds. IsPlainState Block (terms_of ds)) action args (state_view s)) (sym are) (table_plain (action_of action) action fresh args (state_view s) refl asked) low high plain arguments)

  pub opens : OpenWhatMatters block_stands block_terms block_depends action fresh args s (branches_view bs)
  opens =
      wrapped_opens state_view Block s (branches_view bs) block_actions action fresh args chunks_depend
      (subst (OpenWhatMatters (StandFor Block) terms_of chunks_depend action fresh args (state_view s)) (sym are)
      (λ vars v args' h serves. table_depends (action_of action) fresh args (state_view s) vars v args' h serves))

  pub keeps : block_kept s → Each (λ b. block_kept b.state) (branches_view bs)
  keeps kept =
      each_seen state_view (λ b. AreKept Block b.state) (λ b. block_kept b.state) (λ b is. is) (branches_view bs)
      (subst (Each (λ b. AreKept Block b.state)) (sym are) (table_keeps fresh args (state_view s) kept (action_of action)))

  pub misses : Each (λ b. MissesItsOwn Block b.result) (branches_view bs)
  misses =
      each_seen state_view (λ b. MissesItsOwn Block b.result) (λ b. MissesItsOwn Block b.result) (λ b is. is) (branches_view bs)
      (subst (Each (λ b. MissesItsOwn Block b.result)) (sym are) (table_misses (action_of action) fresh args (state_view s)))
