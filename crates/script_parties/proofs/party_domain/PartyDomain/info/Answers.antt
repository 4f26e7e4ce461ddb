use Rattle.std.proofs.Common.{ap, ◌∙◌}
use Rattle.board_model.specs.Replies as replies
use Rattle.board_model.specs.Tables as tables
use Rattle.script_parties.specs.Named.{party_at, things_of}
use Rattle.script_parties.specs.Numbered.{seat_at, things_by}
use Rattle.script_parties.specs.Parties.{Parties}
use Rattle.script_parties.proofs.Counts.{nodes-same, readers-same, writers-same}
use Rattle.script_parties.proofs.Growth.{same_things}
use Rattle.script_parties.proofs.Overview.{TakeAlike, info_told}
use Rattle.script_parties.proofs.party_domain.PartyDomain.info.Goals as goal

pub returns : goal.returns
returns g c =
    let d = c.self.inside in
    let h = c.self.invariant.1 in
    let xs = things_of (things_by (seat_at d.names) d.core) d.core in
    let same = same_things d.nodes.keys (things_by (seat_at d.names) d.core) d.core h in
    let in_all = c.in-Some-Some-Some-Some in
    let named = c.in_ok-new-in-Some-Some-Some-Some in
    let ts = d.core.tables.things in
    let alike : TakeAlike xs ts = record {
      readers = λ n. readers-same (party_at d.nodes.keys) n ts xs same;
      writers = λ n. writers-same (party_at d.nodes.keys) n ts xs same;
      nodes = λ n. nodes-same d.nodes.keys n ts xs h.parties h.holders same;
    } in
    info_told xs ts (tables.board_at d.core.tables c.args.board) in_all.name in_all.config in_all.attributes.now in_all.taken alike
    (record { name_is = in_all.ensures; config_is = in_all.ensures'; attributes_are = in_all.ensures''; taken_is = in_all.ensures''' })
    named.field-0 c.key_type_of.result c.len.result (named.ensures ∙ c.name_text.ensures) c.key_type_of.ensures c.len.ensures.value
    ∙ ap (λ (p : Parties). replies.info_of p.tables.things (tables.board_at p.tables c.args.board)) c.self.view_is
