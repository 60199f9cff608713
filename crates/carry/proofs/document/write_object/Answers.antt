use Rattle.carry.proofs.Written.{object_parts}
use Rattle.carry.proofs.document.write_object.Goals as goal

pub returns : goal.returns
returns c =
    let head = rw (c.object_name-name.ensures, c.kind_text-kind.ensures, c.kind.ensures) at c.in_ok-write.ensures.bytes in
    object_parts _ _ _ _ _ _ _ head c.in_ok-write_start.ensures c.in_ok-write-2.ensures.bytes
