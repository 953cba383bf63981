-- The laws, from the table to the branches of the code.
use Rattle.std.proofs.Common.{◌≡◌, ℕ, List, [], ◌∷◌, map, Option, refl, sym, ap, subst, ◌∙◌}
use Rattle.core_uses.specs.Kept.{AreKept}
use Rattle.mem_model.specs.declared.keys.MemoryName.TheVariants.{Record}
use Rattle.record_heap.specs.Names.{action_of}
use Rattle.record_heap.specs.Table.{record_actions}
use Rattle.record_sym.specs.declared.states.RecordSym.{RecordSym}
use Rattle.record_sym.specs.Forms.{DependsOn}
use Rattle.record_sym.specs.Plain.{record_stands, record_terms, record_plain, record_kept, record_asked, record_depends}
use Rattle.record_sym.specs.Table.{table}
use Rattle.record_sym.specs.View.{state_view, record_branch_view, record_branches_view}
use Rattle.pure_terms.specs.declared.variables.Var.{Var}
use Rattle.pure_terms.specs.Pure.{PureTerm}
use Rattle.sym_chunks.specs.Wrapped.{seen}
use Rattle.sym_model.specs.declared.branches.Branch.{Branch}
use Rattle.sym_model.specs.Chunks.{StandFor, terms_of}
use Rattle.sym_model.specs.Cores.{MissesItsOwn}
use Rattle.sym_model.specs.Forms.{OpenWhatMatters}
use Rattle.sym_model.specs.Laws.{MayBeAsked, ActLaw, ActsPlainly}
use Rattle.sym_model.specs.Lists.{Each}
use Rattle.sym_model.specs.Plain.{ActsNarrowly}
use Rattle.sym_model.specs.Pure.{PureBranch}
use Rattle.sym_model.specs.View.{branches_view}
use Rattle.sym_chunks.proofs.CaseLaws.{Branch as ChunkBranch}
use Rattle.sym_chunks.proofs.Opening.{Opens}
use Rattle.sym_chunks.proofs.Wrapping.{each_seen, serves_chunks, wrapped_law}
use Rattle.record_sym.proofs.FormLaws.{table_depends}
use Rattle.record_sym.proofs.Law.{table_law, table_plain, table_keeps, table_misses}
use Rattle.record_sym.proofs.NarrowLaws.{table_narrow}

-- the branches over states, seen as those over lists of chunks
as_seen : (ds : List (Branch RecordSym)) → map (seen state_view) (branches_view ds) ≡ record_branches_view ds
as_seen [] = refl
as_seen (d ∷ ds) = ap (λ rest. record_branch_view d ∷ rest) (as_seen ds)

module _ (action : List ℕ) (fresh : Option Var) (args : List PureTerm) (s : RecordSym) (bs : List (Branch RecordSym)) (are : record_branches_view bs ≡ table (action_of action) fresh args (state_view s)) where
  are_seen : map (seen state_view) (branches_view bs) ≡ table (action_of action) fresh args (state_view s)
  are_seen = as_seen bs ∙ are

  -- what holds of each branch of the table holds of each of the code
  from_table : (P : ChunkBranch → Type 0) (P' : PureBranch RecordSym → Type 0) → ((b : PureBranch RecordSym) → P (seen state_view b) → P' b) → Each P (table (action_of action) fresh args (state_view s)) → Each P' (branches_view bs)
  from_table P P' f each = each_seen state_view P P' f (branches_view bs) (subst (Each P) (sym are_seen) each)

  pub keeps : record_kept s → Each (λ b. record_kept b.state) (branches_view bs)
  keeps kept = from_table (λ b. AreKept Record b.state) (λ b. record_kept b.state) (λ b is. is) (table_keeps (action_of action) fresh args (state_view s) kept)

  pub misses : Each (λ b. MissesItsOwn Record b.result) (branches_view bs)
  misses = from_table (λ b. MissesItsOwn Record b.result) (λ b. MissesItsOwn Record b.result) (λ b is. is) (table_misses (action_of action) fresh args (state_view s))

  pub opens : OpenWhatMatters record_stands record_terms record_depends action fresh args s (branches_view bs)
  opens vars v args' h serves =
      from_table (Opens v (DependsOn (action_of action) (state_view s) args v h)) _ (λ b is. is)
      (table_depends (action_of action) fresh args (state_view s) vars v args' h (serves_chunks state_view Record s (branches_view bs) vars v fresh args args' h serves))

  module _ (asked : MayBeAsked record_actions action fresh args (record_terms s)) where
    pub act_law : ActLaw record_stands record_terms record_actions action fresh args (record_asked action args) s (branches_view bs)
    act_law =
        wrapped_law state_view Record s (branches_view bs) record_actions action fresh args (record_asked action args)
        (subst (ActLaw (StandFor Record) terms_of record_actions action fresh args (record_asked action args) (state_view s)) (sym are_seen)
        (table_law (action_of action) action fresh args (state_view s) refl asked))

    pub acts_plainly : ActsPlainly record_plain action args s (branches_view bs)
    acts_plainly low high plain arguments = from_table _ _ (λ b is. is) (table_plain (action_of action) action fresh args (state_view s) refl asked low high plain arguments)

    pub acts_narrowly : ActsNarrowly record_terms action args s (branches_view bs)
    acts_narrowly low high narrow arguments = from_table _ _ (λ b is. is) (table_narrow action fresh args (state_view s) asked low high narrow arguments)
