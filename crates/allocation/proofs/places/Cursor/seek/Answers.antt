-- `seek` meets its contract: the contracts before the place are passed from the top.
use Rattle.allocation.proofs.RunLaws.{ends_inside, first_inside, stands_first}
use Rattle.allocation.proofs.places.Cursor.seek.Goals as goal

pub unwrap-requires : goal.unwrap-requires
unwrap-requires c = ends_inside _ _ _ (first_inside _ _ c.requires) c.walk.ensures.ends

pub returns : goal.returns
returns c = stands_first _ _ _ c.requires (rw c.unwrap.ensures at c.walk.ensures.ends)
