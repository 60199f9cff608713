use Rattle.std.proofs.Common.{◌≡◌, ℕ, zero, suc, List, [], ◌∷◌, Some, refl}
use Rattle.objects.specs.Objects.{objects, one_value, kind_of_value, kind_of_call, Fits, ObjectHasRoom}
use Rattle.objects.specs.declared.kind.Value.{Value}
use Rattle.objects.specs.declared.kind.Value.TheVariants.{Queue as queue_value}
use Rattle.objects.specs.declared.kind.Call.TheVariants.{Queue as queue_call}
use Rattle.objects.specs.declared.kind.Reply.TheVariants.{Queue as queue_reply}
use Rattle.atoms.specs.declared.item.Item.{Item}
use Rattle.atoms.specs.declared.queue.QueueCall.TheVariants.{Enq}
use Rattle.atoms.specs.declared.queue.QueueReply.TheVariants.{Ok}
use Rattle.intentions.specs.Levels.{shown_values}
use Rattle.tests_objects.proofs.intentions_tests.absorb_enq.Goals as goal

-- an enqueueing on any queue has room and returns ok
value_enq : (v : Value) (x : Item) → kind_of_value v ≡ kind_of_call (queue_call (Enq x)) → one_value.reply v (queue_call (Enq x)) ≡ Some
    (queue_reply Ok)
value_enq (queue_value v) x h = refl
value_enq v x h = cc

enq : (values : List Value) (object : ℕ) (x : Item) → Fits values object (queue_call (Enq x))
    → objects.reply values (object, queue_call (Enq x)) ≡ Some (queue_reply Ok)
enq [] object x h = absurd h
enq (v ∷ values) zero x h = value_enq v x h
enq (v ∷ values) (suc object) x h = enq values object x h

enq_room : (values : List Value) (object : ℕ) (x : Item) → Fits values object (queue_call (Enq x))
    → ObjectHasRoom values object (queue_call (Enq x))
enq_room [] object x h = absurd h
enq_room (queue_value v ∷ values) zero x h = tt
enq_room (v ∷ values) zero x h = cc
enq_room (v ∷ values) (suc object) x h = enq_room values object x h

pub absorb-requires-clause-legal : goal.absorb-requires-clause-legal
absorb-requires-clause-legal _ c = (enq (shown_values c.args.view.now) c.args.object c.args.item (c.fits.ensures.0 c.if-fits.true), tt)

pub absorb-requires-clause-room : goal.absorb-requires-clause-room
absorb-requires-clause-room _ c = (enq_room (shown_values c.args.view.now) c.args.object c.args.item (c.fits.ensures.0 c.if-fits.true), tt)
