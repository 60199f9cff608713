-- Runs that were made may cross threads. A search that begins without their records meets its bounds.
use denote.Param.Send.{IsSend, sendable}
use Rattle.std.proofs.Crossing.{crosses, Box-send, Vec-send}
use Rattle.objects.proofs.kind.Reply.TheSendSync as send_reply
use Rattle.objects.proofs.entry.Entry.TheSendSync as send_entry
use Rattle.committed.proofs.marks.MarkedEntry.TheSendSync as send_marked
use Rattle.meaning.proofs.end.End.TheSendSync as send_end
use Rattle.batch.proofs.record.Made.TheSendSync as send_made
use Rattle.batch.proofs.record.Taken.TheLaws.TheKnot as records
use Rattle.batch.specs.contracts.record.Made as made
use Rattle.batch.specs.contracts.record.Record as done
use Rattle.rounds.specs.contracts.make.NumberedRun as numbered

record_field : IsSend done.the_field.row
record_field = records.send-Record send_reply.the_field_send (Box-send made.the_row send_made.the_send) (search sendable depth 20)
    (λ h s. Box-send h s) (λ h s. search (sendable, crosses) depth 20) (λ h s. search (sendable, crosses) depth 20) (λ h s. Vec-send h s)
    send_end.the_field_send

pub numbered_crosses : IsSend numbered.the_row
numbered_crosses = search (sendable, crosses, record_field, send_marked.the_send, send_entry.the_send) depth 20
