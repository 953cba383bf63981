use Rattle.sym_model.proofs.Unions.{holds_entry, found_chunk, held_changes, taken_out, put_last}
use Rattle.sym_model.proofs.laws.unions_change.Goals as goal

pub returns : goal.returns
returns c = record {
  holds = λ v cs h k w union (i, (d, (at, entry))). holds_entry v cs h i d k w union at entry;
  nothing_else = found_chunk;
  changed = held_changes;
  taken = taken_out;
  added = put_last;
}
