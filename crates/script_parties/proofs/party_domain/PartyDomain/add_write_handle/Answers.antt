use Rattle.std.proofs.Common.{rules, ◌≡◌, ◌≢◌, true, Some, [], ◌∷◌, ◌++◌, refl, sym, ap, ◌∙◌, subst}
use Rattle.board_layout.specs.Answer.{Answers}
use Rattle.board_model.specs.declared.answer.Reply.TheVariants as reply
use Rattle.board_names.specs.declared.errors.boards.EntryHandleMutError.TheVariants as entry_mut_error
use Rattle.board_model.specs.declared.tables.Kind.TheVariants as kind
use Rattle.board_model.specs.declared.tables.ThingKind.TheVariants as thing_kind
use Rattle.board_model.specs.LawfulSession.{is_typed_key}
use Rattle.board_model.specs.Replies.{keeps_key}
use Rattle.board_model.specs.Tables.{board_at}
use Rattle.board_model.specs.TypeTable.{value_detail}
use Rattle.script_parties.specs.Named.{things_of}
use Rattle.script_parties.specs.Numbered.{seat_at, things_by}
use Rattle.script_parties.specs.Parties.{IsFew, IsEntryMut}
use Rattle.script_parties.proofs.Asked.{carried, err_of, ok_of}
use Rattle.script_parties.proofs.Growth.{named_more, next_free, things_more}
use Rattle.script_parties.proofs.Handles.{entry_mut_made, entry_mut_not_made, held_as}
use Rattle.script_parties.proofs.NamesAndThings.{given_names, on_err, settled, shown_still, still, told}
use Rattle.script_parties.proofs.Places.{has_number, stands_in, thing_of_call}
use Rattle.script_parties.proofs.Ports.{from, shown}
use Rattle.script_seats.specs.Seats.{put}
use Rattle.board_service.specs.Domain.{after_entry_mut, entry_mut_answer, entry_for, held}
use Rattle.script_parties.proofs.party_domain.PartyDomain.add_write_handle.Goals as goal

pub number_of-number-requires : goal.number_of-number-requires
number_of-number-requires g c =
    let s = c.self.inside in
    let x = c.args.writer.now in
    let at = things_by (seat_at s.names) s.core in
    let number = has_number s.nodes.keys at at s.core x c.self.invariant.1 refl (stands_in (shown g.C.Words.list s.core (things_of at s.core)) _ x c.self.view_is c.requires.stands) in
    (at, number.0, given_names s.names c.reserve.new.self at c.self.invariant.0 c.reserve.ensures.index c.reserve.ensures.names, number.1)

pub entry_mut_in-requires-clause-held : goal.entry_mut_in-requires-clause-held
entry_mut_in-requires-clause-held g c =
    let s = c.self.inside in
    let x = c.args.writer.now in
    let at = things_by (seat_at s.names) s.core in
    let h = c.self.invariant.1 in
    let n = c.number_of-number.result in
    let stands = stands_in (shown g.C.Words.list s.core (things_of at s.core)) _ x c.self.view_is c.requires.stands in
    let i = thing_of_call s.nodes.keys at at s.core x n h refl stands (c.number_of-number.ensures at (given_names s.names c.reserve.new.self at c.self.invariant.0 c.reserve.ensures.index c.reserve.ensures.names)) in
    let typed = subst (λ p. is_typed_key (board_at p.tables x.board) c.args.key.now ≡ true) (sym c.self.view_is) c.requires.key in
    held_as s.nodes.keys s.core x n thing_kind.Writer c.args.key.now refl i c.requires.kind typed

pub entry_mut_in-requires-clause-keys : goal.entry_mut_in-requires-clause-keys
entry_mut_in-requires-clause-keys g c = c.self.invariant.1.keys

pub invariant_of-self-in-Ok : goal.invariant_of-self-in-Ok
invariant_of-self-in-Ok g c =
    let s = c.self.inside in
    let x = c.args.writer.now in
    let at = things_by (seat_at s.names) s.core in
    let h = c.self.invariant.1 in
    let n = c.number_of-number.result in
    let stands = stands_in (shown g.C.Words.list s.core (things_of at s.core)) _ x c.self.view_is c.requires.stands in
    let i = thing_of_call s.nodes.keys at at s.core x n h refl stands (c.number_of-number.ensures at (given_names s.names c.reserve.new.self at c.self.invariant.0 c.reserve.ensures.index c.reserve.ensures.names)) in
    let answer = subst (λ v. Answers (ok_of c.in-Ok.found) entry_mut_error.OutOfMemory (entry_mut_answer s.core (held s.core n) (entry_for s.core (held s.core n) (keeps_key c.args.key.now) v))) c.value_detail.ensures c.in-Ok.ensures.answer in
    let ok = subst (λ v. c.entry_mut_in.new.core ≡ after_entry_mut s.core (held s.core n) (entry_for s.core (held s.core n) (keeps_key c.args.key.now) v)) c.value_detail.ensures c.in-Ok.ensures.ok in
    let new = from x c.args.name (kind.WriteHandle c.in-Ok.found.entry c.port.result) in
    let both = entry_mut_made g.C.Words.list s.nodes.keys at s.core c.entry_mut_in.new.core x n c.args.name (keeps_key c.args.key.now) (value_detail c.args.value_type) c.in-Ok.found c.port.result h i c.port.ensures answer ok in
    let names = c.push_beside.ensures at (given_names s.names c.reserve.new.self at c.self.invariant.0 c.reserve.ensures.index c.reserve.ensures.names) (next_free s.nodes.keys at at s.core c.in-Ok.found.thing h refl both.1.next) in
    settled c.push_beside.new.self s.nodes.keys (put c.in-Ok.found.thing (Some new) at) c.entry_mut_in.new.core names (named_more s.nodes.keys at s.core c.entry_mut_in.new.core c.in-Ok.found.thing new h both.1)

pub returns-in-Ok-clause-asked : goal.returns-in-Ok-clause-asked
returns-in-Ok-clause-asked g c =
    let s = c.self.inside in
    let x = c.args.writer.now in
    let at = things_by (seat_at s.names) s.core in
    let h = c.self.invariant.1 in
    let n = c.number_of-number.result in
    let stands = stands_in (shown g.C.Words.list s.core (things_of at s.core)) _ x c.self.view_is c.requires.stands in
    let i = thing_of_call s.nodes.keys at at s.core x n h refl stands (c.number_of-number.ensures at (given_names s.names c.reserve.new.self at c.self.invariant.0 c.reserve.ensures.index c.reserve.ensures.names)) in
    let answer = subst (λ v. Answers (ok_of c.in-Ok.found) entry_mut_error.OutOfMemory (entry_mut_answer s.core (held s.core n) (entry_for s.core (held s.core n) (keeps_key c.args.key.now) v))) c.value_detail.ensures c.in-Ok.ensures.answer in
    let ok = subst (λ v. c.entry_mut_in.new.core ≡ after_entry_mut s.core (held s.core n) (entry_for s.core (held s.core n) (keeps_key c.args.key.now) v)) c.value_detail.ensures c.in-Ok.ensures.ok in
    let new = from x c.args.name (kind.WriteHandle c.in-Ok.found.entry c.port.result) in
    let both = entry_mut_made g.C.Words.list s.nodes.keys at s.core c.entry_mut_in.new.core x n c.args.name (keeps_key c.args.key.now) (value_detail c.args.value_type) c.in-Ok.found c.port.result h i c.port.ensures answer ok in
    let names = c.push_beside.ensures at (given_names s.names c.reserve.new.self at c.self.invariant.0 c.reserve.ensures.index c.reserve.ensures.names) (next_free s.nodes.keys at at s.core c.in-Ok.found.thing h refl both.1.next) in
    carried (λ now xs. IsEntryMut now (shown g.C.Words.list c.entry_mut_in.new.core xs) c.args.name x c.args.key.now c.args.value_type (reply.Number c.in-Ok.found.place)) (shown g.C.Words.list s.core (things_of at s.core)) c.args.self.now
    (things_of at s.core ++ new ∷ []) (things_of (things_by (seat_at c.push_beside.new.self) c.entry_mut_in.new.core) c.entry_mut_in.new.core)
    c.self.view_is (ap (λ a. things_of a c.entry_mut_in.new.core) (told s.nodes.keys (seat_at c.push_beside.new.self) (put c.in-Ok.found.thing (Some new) at) c.entry_mut_in.new.core names.names (named_more s.nodes.keys at s.core c.entry_mut_in.new.core c.in-Ok.found.thing new h both.1)) ∙ things_more s.nodes.keys at s.core c.entry_mut_in.new.core c.in-Ok.found.thing new h both.1) both.0

pub returns-in-Err-clause-asked : goal.returns-in-Err-clause-asked
returns-in-Err-clause-asked g c =
    let s = c.self.inside in
    let x = c.args.writer.now in
    let at = things_by (seat_at s.names) s.core in
    let h = c.self.invariant.1 in
    let n = c.number_of-number.result in
    let stands = stands_in (shown g.C.Words.list s.core (things_of at s.core)) _ x c.self.view_is c.requires.stands in
    let i = thing_of_call s.nodes.keys at at s.core x n h refl stands (c.number_of-number.ensures at (given_names s.names c.reserve.new.self at c.self.invariant.0 c.reserve.ensures.index c.reserve.ensures.names)) in
    let few = subst (λ p. IsFew p) (sym c.self.view_is) c.requires.few in
    let answer = subst (λ v. Answers (err_of c.in-Err.why) entry_mut_error.OutOfMemory (entry_mut_answer s.core (held s.core n) (entry_for s.core (held s.core n) (keeps_key c.args.key.now) v))) c.value_detail.ensures c.in-Err.ensures.answer in
    let memory : c.in-Err.why ≢ entry_mut_error.OutOfMemory = search rules in
    carried (λ now xs. IsEntryMut now (shown g.C.Words.list c.entry_mut_in.new.core xs) c.args.name x c.args.key.now c.args.value_type (reply.EntryMutError c.in-Err.why)) (shown g.C.Words.list s.core (things_of at s.core)) c.args.self.now
    (things_of at s.core) (things_of (things_by (seat_at c.reserve.new.self) c.entry_mut_in.new.core) c.entry_mut_in.new.core)
    c.self.view_is (ap (λ f. things_of (things_by f c.entry_mut_in.new.core) c.entry_mut_in.new.core) c.reserve.ensures.names ∙ ap (λ d. things_of (things_by (seat_at s.names) d) d) c.in-Err.ensures.err)
    (entry_mut_not_made g.C.Words.list s.nodes.keys at s.core c.entry_mut_in.new.core x n c.args.name (keeps_key c.args.key.now) (value_detail c.args.value_type) c.in-Err.why h i few.things memory answer c.in-Err.ensures.err)

pub invariant_of-self : goal.invariant_of-self
invariant_of-self g c =
    let s = c.self.inside in
    still s.names c.reserve.new.self s.nodes.keys s.nodes.keys s.core s.core c.self.invariant c.reserve.ensures.index refl c.reserve.ensures.names refl

pub invariant_of-self-in-Err-OutOfMemory : goal.invariant_of-self-in-Err-OutOfMemory
invariant_of-self-in-Err-OutOfMemory g c =
    let s = c.self.inside in
    still s.names c.reserve.new.self s.nodes.keys s.nodes.keys s.core c.entry_mut_in.new.core c.self.invariant c.reserve.ensures.index refl c.reserve.ensures.names c.in-Err-OutOfMemory.ensures.err

pub invariant_of-self-in-Err : goal.invariant_of-self-in-Err
invariant_of-self-in-Err g c =
    let s = c.self.inside in
    still s.names c.reserve.new.self s.nodes.keys s.nodes.keys s.core c.entry_mut_in.new.core c.self.invariant c.reserve.ensures.index refl c.reserve.ensures.names c.in-Err.ensures.err

pub returns-in_err-reserve-clause-err : goal.returns-in_err-reserve-clause-err
returns-in_err-reserve-clause-err g c =
    let s = c.self.inside in
    on_err c.from_residual.result (shown_still (shown g.C.Words.list) c.args.self.now s.names c.reserve.new.self s.core s.core c.reserve.ensures.names refl c.self.view_is)

pub returns-in-Err-OutOfMemory-clause-err : goal.returns-in-Err-OutOfMemory-clause-err
returns-in-Err-OutOfMemory-clause-err g c =
    let s = c.self.inside in
    shown_still (shown g.C.Words.list) c.args.self.now s.names c.reserve.new.self s.core c.entry_mut_in.new.core c.reserve.ensures.names c.in-Err-OutOfMemory.ensures.err c.self.view_is
