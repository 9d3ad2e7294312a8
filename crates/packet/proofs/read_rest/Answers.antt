-- No ETB. What stands after one needs no answer.
use Rattle.std.proofs.Common.{refl}
use Rattle.answer.proofs.Laws.{gives_refused}
use Rattle.packet.proofs.Closing.{rest_none}
use Rattle.packet.proofs.read_rest.Goals as goal

pub returns-in_default : goal.returns-in_default
returns-in_default c = gives_refused _ _ c.args.out.now _ (rest_none c.args.rest.now c.memchr.result c.memchr.ensures c.in_default.is) refl
