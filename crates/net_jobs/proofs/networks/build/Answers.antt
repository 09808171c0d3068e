use Rattle.std.proofs.Common.{map}
use Rattle.net_jobs.specs.declared.networks.TheConstants.{OUTPUTS_CELL}
use Rattle.net_jobs.specs.Hosts.{standing_of}
use Rattle.net_jobs.proofs.BuiltTexts.{found_with, may_follow, stopped_too, told_too}
use Rattle.net_jobs.proofs.networks.build.Goals as goal

pub text_of-requires-clause-may : goal.text_of-requires-clause-may
text_of-requires-clause-may g c =
    may_follow c.args.net.now c.as_slice-patterns.result.now OUTPUTS_CELL (map standing_of c.args.sessions.now) (map standing_of c.built_and_told.new.sessions) c.in_ok-found.found c.in_ok-found.ensures.built

pub returns-clause-built : goal.returns-clause-built
returns-clause-built g c =
    let m = c.args.manager.now in
    let net = c.args.net.now in
    let options = c.args.options.now in
    let old = c.args.sessions.now in
    let new = c.built_and_told.new.sessions in
    let found = c.in_ok-found.found in
    told_too m net options old new found
    (found_with m net options old new found c.as_slice-patterns.result.now c.as_slice-patterns.ensures c.in_ok-found.ensures.built (λ yes. c.in_ok-found.ensures.sifted yes)) c.text_of.result c.text_of.ensures.text

pub returns-clause-refused : goal.returns-clause-refused
returns-clause-refused g c =
    let m = c.args.manager.now in
    let net = c.args.net.now in
    let options = c.args.options.now in
    let old = c.args.sessions.now in
    let new = c.built_and_told.new.sessions in
    let found = c.in_ok-found.found in
    stopped_too m net options old new found
    (found_with m net options old new found c.as_slice-patterns.result.now c.as_slice-patterns.ensures c.in_ok-found.ensures.built (λ yes. c.in_ok-found.ensures.sifted yes)) c.text_of.result c.text_of.ensures.stopped
