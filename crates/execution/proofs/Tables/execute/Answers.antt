-- `execution::Tables::execute` meets its contract: command by command.
use mathlib.Core.Path.{refl, sym, ◌∙◌}
use Rattle.command.specs.declared.Command.TheVariants.{Opn, Gts, GtsWrong, Tli, TliWrong, TlrWrong, Tle, Unknown}
use Rattle.command.proofs.Promises.{row_one}
use Rattle.execution.specs.Stored.{stored_as}
use Rattle.execution.specs.CommandTable.{response_to}
use Rattle.execution.proofs.Asked.{gts_network, tli_network, tli_long, tlr_long}
use Rattle.execution.proofs.Choosing.{answers_by, executes_by, executes_fed}
use Rattle.execution.proofs.Tables.execute.Goals as goal

pub version_response-requires : goal.version_response-requires
version_response-requires c = gts_network c.args.payload.now c.in-Gts.network (sym (row_one _ _ c.command_of.ensures) ∙ c.in-Gts.is)

pub open_load-requires : goal.open_load-requires
open_load-requires c =
    let p = c.args.payload.now in
    let n = c.in-Tli.network in
    let e = sym (row_one _ _ c.command_of.ensures) ∙ c.in-Tli.is in
    (tli_network p n e, tli_long p n e)

pub add_records-requires : goal.add_records-requires
add_records-requires c = tlr_long c.args.payload.now (sym (row_one _ _ c.command_of.ensures) ∙ c.in-Tlr.is)

pub returns-in-Opn : goal.returns-in-Opn
unfolding response_to
returns-in-Opn c =
    let a = c.args in
    answers_by a.payload.now (stored_as a.self.now a.live.now a.loading.now) Opn (sym (row_one _ _ c.command_of.ensures) ∙ c.in-Opn.is) c.text.result c.text.ensures refl

pub returns-in-Gts : goal.returns-in-Gts
unfolding response_to
returns-in-Gts c =
    let a = c.args in
    answers_by a.payload.now (stored_as a.self.now a.live.now a.loading.now) (Gts c.in-Gts.network) (sym (row_one _ _ c.command_of.ensures) ∙ c.in-Gts.is) c.version_response.result c.version_response.ensures refl

pub returns-in-GtsWrong : goal.returns-in-GtsWrong
unfolding response_to
returns-in-GtsWrong c =
    let a = c.args in
    answers_by a.payload.now (stored_as a.self.now a.live.now a.loading.now) GtsWrong (sym (row_one _ _ c.command_of.ensures) ∙ c.in-GtsWrong.is) c.text-in-GtsWrong.result c.text-in-GtsWrong.ensures refl

pub returns-in-Tli : goal.returns-in-Tli
unfolding response_to
returns-in-Tli c =
    let a = c.args in
    let l = c.open_load in
    executes_by a.payload.now (stored_as a.self.now a.live.now a.loading.now) (Tli c.in-Tli.network) (sym (row_one _ _ c.command_of.ensures) ∙ c.in-Tli.is) _ a.live.now l.new.loading l.ensures.is refl l.ensures.store

pub returns-in-TliWrong : goal.returns-in-TliWrong
unfolding response_to
returns-in-TliWrong c =
    let a = c.args in
    answers_by a.payload.now (stored_as a.self.now a.live.now a.loading.now) TliWrong (sym (row_one _ _ c.command_of.ensures) ∙ c.in-TliWrong.is) c.text-in-TliWrong.result c.text-in-TliWrong.ensures refl

pub returns-in-Tlr : goal.returns-in-Tlr
returns-in-Tlr c =
    let a = c.args in
    let l = c.add_records in
    executes_fed a.payload.now (stored_as a.self.now a.live.now a.loading.now) (sym (row_one _ _ c.command_of.ensures) ∙ c.in-Tlr.is) _ l.new.loading l.ensures

pub returns-in-TlrWrong : goal.returns-in-TlrWrong
unfolding response_to
returns-in-TlrWrong c =
    let a = c.args in
    answers_by a.payload.now (stored_as a.self.now a.live.now a.loading.now) TlrWrong (sym (row_one _ _ c.command_of.ensures) ∙ c.in-TlrWrong.is) c.wrong_records.result c.wrong_records.ensures refl

pub returns-in-Tle : goal.returns-in-Tle
unfolding response_to
returns-in-Tle c =
    let a = c.args in
    let l = c.end_load in
    executes_by a.payload.now (stored_as a.self.now a.live.now a.loading.now) Tle (sym (row_one _ _ c.command_of.ensures) ∙ c.in-Tle.is) _ l.new.live l.new.loading l.ensures.is l.ensures.live_is l.ensures.store

pub returns-in-Unknown : goal.returns-in-Unknown
unfolding response_to
returns-in-Unknown c =
    let a = c.args in
    answers_by a.payload.now (stored_as a.self.now a.live.now a.loading.now) Unknown (sym (row_one _ _ c.command_of.ensures) ∙ c.in-Unknown.is) c.text-in-Unknown.result c.text-in-Unknown.ensures refl
