use Rattle.std.proofs.Common.{rules, ◌≡◌, ◌∙◌, sym, ap, subst}
use Rattle.pts_share.specs.Passes.{IsPassOf}
use Rattle.pts_share.specs.Sharing.{system_of, table_of}
use Rattle.pts_share.proofs.Loans.{loans_differ}
use Rattle.pts_share_tests.proofs.Ports.{pass_again}
use Rattle.pts_share_tests.proofs.asking.submit.Goals as goal

pub returns-in-Port-clause-pass : goal.returns-in-Port-clause-pass
returns-in-Port-clause-pass g c =
    let port = c.submit-in-Port.new.self in
    let same = loans_differ port.pass.ghost_name _ (table_of port.shared.now) (table_of c.args.shared.now) c.submit-in-Port.ensures.held in
    let is = pass_again (table_of c.args.shared.now) (table_of port.shared.now) (system_of c.args.shared.now) (system_of port.shared.now) port.pass.now same.1 c.submit-in-Port.ensures.system c.submit-in-Port.ensures.ready in
    search (rules, same.0, is)

pub returns-in-Port-clause-session : goal.returns-in-Port-clause-session
returns-in-Port-clause-session g c =
    let port = c.submit-in-Port.new.self in
    let same = loans_differ port.pass.ghost_name _ (table_of port.shared.now) (table_of c.args.shared.now) c.submit-in-Port.ensures.held in
    search (rules, same.0, c.submit-in-Port.ensures.session)
