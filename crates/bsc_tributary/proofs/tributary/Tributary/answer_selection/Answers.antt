-- `answer_selection` is the row of a call of a selection address.
use Rattle.std.proofs.Common.{◌∙◌, refl}
use Rattle.bsc_frame.specs.declared.message.Message.TheVariants as m
use Rattle.bsc_tributary.proofs.Calls.{selection_step_ready, selection_step_room}
use Rattle.bsc_tributary.proofs.Calls.{stays_selection_step, within_spools}
use Rattle.bsc_tributary.proofs.tributary.Tributary.answer_selection.Goals as goal

pub invariant_of-self : goal.invariant_of-self
invariant_of-self g c =
    stays_selection_step _ c.args.self.now c.args.select c.begin-reply.new.self
    c.make_room-room.new.self _ c.self.invariant
    (c.self.view_is ∙ c.drop_line.ensures.state)
    (within_spools _ c.args.self.now c.args.select c.self.invariant
    (c.self.view_is ∙ c.drop_line.ensures.state) c.requires) c.make_room-room.ensures.spool

pub returns-clause-row : goal.returns-clause-row
returns-clause-row g c =
    rw c.set_reply-2.ensures
    (selection_step_ready _ c.args.self.now c.args.select c.make_room-room.result
    c.begin-reply.new.self c.make_room-room.new.self c.begin-reply.result
    (m.Reply c.begin-reply.result)
    (c.self.view_is ∙ c.drop_line.ensures.state) c.if-not-self.false
    (within_spools _ c.args.self.now c.args.select c.self.invariant
    (c.self.view_is
    ∙ c.drop_line.ensures.state) c.requires) c.make_room-room.ensures.spool
    c.begin-reply.ensures.state c.begin-reply.ensures.reply refl)

pub returns-clause-room : goal.returns-clause-room
returns-clause-room g c =
    selection_step_room _ c.args.self.now c.args.select c.make_room-room.result
    c.make_room-room.new.self
    (c.self.view_is ∙ c.drop_line.ensures.state)
    (within_spools _ c.args.self.now c.args.select c.self.invariant
    (c.self.view_is
    ∙ c.drop_line.ensures.state) c.requires) c.make_room-room.ensures.spool
    c.make_room-room.ensures.there

pub returns-clause-tributary : goal.returns-clause-tributary
returns-clause-tributary g c =
    stays_selection_step _ c.args.self.now c.args.select c.begin-reply.new.self
    c.make_room-room.new.self _ c.self.invariant
    (c.self.view_is ∙ c.drop_line.ensures.state)
    (within_spools _ c.args.self.now c.args.select c.self.invariant
    (c.self.view_is ∙ c.drop_line.ensures.state) c.requires) c.make_room-room.ensures.spool
