-- Runs that were made ahead may cross threads. It goes part by part, since a search through all of it meets its bounds.
use denote.Param.Send.{IsSend, sendable}
use Rattle.std.proofs.Crossing.{crosses, Box-send, Vec-send}
use Rattle.std.specs.contracts.vec.Vec as vec
use Rattle.std.specs.contracts.result.Result as result_of
use Rattle.std.specs.contracts.option.Option as option
use Rattle.std.specs.contracts.alloc.Global as global
use Rattle.std.specs.contracts.impls.GlobalAllocator.TheImpl.{ghosts}
use Rattle.serial.specs.contracts.NoMemory as no_memory
use Rattle.serial.proofs.NoMemory.TheSendSync as send_no_memory
use Rattle.objects.proofs.kind.Reply.TheSendSync as send_reply
use Rattle.objects.proofs.entry.Entry.TheSendSync as send_entry
use Rattle.committed.proofs.marks.MarkedEntry.TheSendSync as send_marked
use Rattle.meaning.proofs.end.End.TheSendSync as send_end
use Rattle.batch.proofs.record.Made.TheSendSync as send_made
use Rattle.batch.proofs.record.Taken.TheLaws.TheKnot as records
use Rattle.batch.specs.contracts.record.Made as made
use Rattle.batch.specs.contracts.record.Record as done
use Rattle.batch.specs.contracts.tried.Tried as tried
use Rattle.speculate.specs.contracts.ahead.Ahead as ahead

record_field : IsSend done.the_field.row
record_field = records.send-Record send_reply.the_field_send (Box-send made.the_row send_made.the_send) (search sendable depth 20)
    (λ h s. Box-send h s) (λ h s. search (sendable, crosses) depth 20) (λ h s. search (sendable, crosses) depth 20) (λ h s. Vec-send h s)
    send_end.the_field_send

record_crosses : IsSend done.the_row
record_crosses = search (sendable, record_field) depth 20

handler_field : IsSend (option.the_field done.the_row).row
handler_field = search (sendable, record_crosses) depth 20

tried_field : IsSend tried.the_field.row
tried_field = search (sendable, record_field, handler_field, send_end.the_field_send) depth 20

ahead_crosses : IsSend ahead.the_row
ahead_crosses = search (sendable, crosses, tried_field, send_entry.the_send, send_marked.the_send) depth 20

pub runs_cross : IsSend (result_of.the_row (vec.the_row ahead.the_row global.the_row ghosts) no_memory.the_row)
runs_cross = search (sendable, crosses, ahead_crosses, send_no_memory.the_send) depth 20
