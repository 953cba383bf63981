use Rattle.std.proofs.Common.{refl, sym, true≢false}
use Rattle.mem_model.specs.declared.keys.Sub.TheVariants.{Shape, Bound, Dom, Gone}
use Rattle.mem_model.specs.Keys.{key}
use Rattle.mem_model.specs.Rows.{a_record, a_block, an_object, gone_beside_a_record}
use Rattle.mem_model.proofs.WellFormed.{kept}
use Rattle.mem_model.proofs.rows.memories_have_their_own_subkeys.Goals as goal

pub returns-clause-blocks : goal.returns-clause-blocks
returns-clause-blocks c h = true≢false (sym (h.subkeys (key 3 Bound) (kept a_block (key 3 Bound) _ refl)))

pub returns-clause-objects : goal.returns-clause-objects
returns-clause-objects c h = true≢false (sym (h.subkeys (key 3 Dom) (kept an_object (key 3 Dom) _ refl)))

pub returns-clause-records : goal.returns-clause-records
returns-clause-records c h = true≢false (sym (h.subkeys (key 3 Shape) (kept a_record (key 3 Shape) _ refl)))

pub returns-clause-gone : goal.returns-clause-gone
returns-clause-gone c h = true≢false (sym (h.subkeys (key 3 Gone) (kept gone_beside_a_record (key 3 Gone) _ refl)))
