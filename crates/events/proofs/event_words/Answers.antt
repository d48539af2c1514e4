-- `events::event_words` meets its contract: the kind picks the call.
use Rattle.events.specs.declared.kind.Kind.TheVariants.{Smp, Open, Primitive, Frame, Identify, Leaving}
use Rattle.events.specs.Events.{gives}
use Rattle.events.proofs.EventLaws.{of_kind, of_another_kind}
use Rattle.events.proofs.event_words.Goals as goal

pub returns-in-Ok-Smp : goal.returns-in-Ok-Smp
unfolding gives
returns-in-Ok-Smp c = of_kind _ _ _ _ _ _ _ _ _ Smp _ c.in-Ok-Smp.field-0-is c.in-Ok-Smp.ensures c.smp_words.ensures

pub returns-in-Ok-Open : goal.returns-in-Ok-Open
unfolding gives
returns-in-Ok-Open c = of_kind _ _ _ _ _ _ _ _ _ Open _ c.in-Ok-Open.field-0-is c.in-Ok-Open.ensures c.open_words.ensures

pub returns-in-Ok-Primitive : goal.returns-in-Ok-Primitive
unfolding gives
returns-in-Ok-Primitive c = of_kind _ _ _ _ _ _ _ _ _ Primitive _ c.in-Ok-Primitive.field-0-is c.in-Ok-Primitive.ensures c.primitive_words.ensures

pub returns-in-Ok-Frame : goal.returns-in-Ok-Frame
unfolding gives
returns-in-Ok-Frame c = of_kind _ _ _ _ _ _ _ _ _ Frame _ c.in-Ok-Frame.field-0-is c.in-Ok-Frame.ensures c.frame_words.ensures

pub returns-in-Ok-Identify : goal.returns-in-Ok-Identify
unfolding gives
returns-in-Ok-Identify c = of_kind _ _ _ _ _ _ _ _ _ Identify _ c.in-Ok-Identify.field-0-is c.in-Ok-Identify.ensures (c.identify_words.ensures c.args.permissions.now)

pub returns-in-Ok-Leaving : goal.returns-in-Ok-Leaving
unfolding gives
returns-in-Ok-Leaving c = of_kind _ _ _ _ _ _ _ _ _ Leaving _ c.in-Ok-Leaving.field-0-is c.in-Ok-Leaving.ensures (c.leaving_words.ensures c.args.permissions.now)

pub returns-in-Err : goal.returns-in-Err
returns-in-Err c = of_another_kind _ _ _ _ _ _ _ c.in-Err.ensures.1 c.put_byte.ensures
