use Rattle.std.proofs.Common.{◌≡◌, map, [], ◌∷◌, refl, subst, ap, ◌∙◌, of_calls}
use Rattle.std.specs.Fn.{CalledAt}
use Rattle.std.proofs.lemmas.Fn.{called_at}
use Rattle.std.proofs.lemmas.List.{nil_from_length}
use Rattle.board_model.specs.declared.tables.Entry.{Entry}
use Rattle.board_domain.specs.declared.callback_progression.CallbackProgression.TheVariants.{Continue, Stop}
use Rattle.board_domain.specs.Walks.{key_seen}
use Rattle.board_domain.proofs.WalkLemmas.{walks_none, walks_stopped, walks_more}
use Rattle.board_domain.proofs.walks.visit_keys.Goals as goal

pub returns-in-Stop : goal.returns-in-Stop
returns-in-Stop g c =
    let K = g.K.ZeroCopySend in
    let seen = c.key_of-key.ensures in
    let told = ap (λ (e : Entry). key_seen K.value_of K.SIZE K.WORDS e) c.entry.view_is in
    c.loop-entry.invariant.1 _
    (walks_stopped (CalledAt g.F.FnMut) c.loop-entry.callback c.callback.new.self
    (key_seen K.value_of K.SIZE K.WORDS c.in-Some.entry.now) (map (key_seen K.value_of K.SIZE K.WORDS) c.in-Some.tail.now) _
    (let left : c.loop-entry.rest.now ≡ c.in-Some.entry.now ∷ c.in-Some.tail.now = c.in-Some.ensures.cases.0 in ap (map (key_seen K.value_of K.SIZE K.WORDS)) left)
    (subst (λ k. CalledAt g.F.FnMut c.loop-entry.callback k Stop c.callback.new.self) (seen ∙ told) (called_at g.F.FnMut c.callback.ensures c.in-Stop.is)))

pub loop-entry-preserved : goal.loop-entry-preserved
loop-entry-preserved g c =
    let K = g.K.ZeroCopySend in
    let seen = c.key_of-key.ensures in
    let told = ap (λ (e : Entry). key_seen K.value_of K.SIZE K.WORDS e) c.entry.view_is in (
      search of_calls,
      λ last rest. c.loop-entry.invariant.1 last
          (walks_more (CalledAt g.F.FnMut) c.loop-entry.callback c.callback.new.self last
          (key_seen K.value_of K.SIZE K.WORDS c.in-Some.entry.now) (map (key_seen K.value_of K.SIZE K.WORDS) c.in-Some.tail.now) _
          (let left : c.loop-entry.rest.now ≡ c.in-Some.entry.now ∷ c.in-Some.tail.now = c.in-Some.ensures.cases.0 in ap (map (key_seen K.value_of K.SIZE K.WORDS)) left)
          (subst (λ k. CalledAt g.F.FnMut c.loop-entry.callback k Continue c.callback.new.self) (seen ∙ told) (called_at g.F.FnMut c.callback.ensures c.in-Continue.is)) rest),
    )

pub returns : goal.returns
returns g c =
    let K = g.K.ZeroCopySend in
    let left : c.loop-entry.rest.now ≡ [] = nil_from_length c.loop-entry.rest.now c.in_default.ensures.cases in
    c.loop-entry.invariant.1 _ (walks_none (CalledAt g.F.FnMut) c.loop-entry.callback _ _ (ap (map (key_seen K.value_of K.SIZE K.WORDS)) left) refl)
