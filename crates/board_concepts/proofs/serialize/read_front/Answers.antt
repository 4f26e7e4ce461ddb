use Rattle.std.proofs.Common.{sym, subst, arith, refl}
use Rattle.std.proofs.lemmas.Grind.{common_steps}
use Rattle.board_concepts.specs.Spelling.{Spelled, SpelledText}
use Rattle.board_concepts.specs.DescriptionSpelling.{SpelledType, SpelledWriters}
use Rattle.board_concepts.proofs.DescriptionLemmas.{is_described}
use Rattle.board_concepts.proofs.serialize.read_front.Goals as goal

pub returns-in_default-clause-every : goal.returns-in_default-clause-every
returns-in_default-clause-every c = λ d at is s.
    let v = c.in_ok-version.ensures.every d.version at.name (omega (arith, is.version)) s.version in
    let n = c.in_ok-name.ensures.every d.name at.key (omega (arith, is.name.fits)) (subst (λ b. SpelledText d.name b at.key) (sym v.1) s.name) in
    c.in_default.ensures.every d.key at.max_readers is.key (subst (λ b. SpelledType d.key b at.max_readers) (sym n.1) s.key)

pub returns-in_err-max_readers-clause-every : goal.returns-in_err-max_readers-clause-every
returns-in_err-max_readers-clause-every c = λ d at is s.
    let v = c.in_ok-version.ensures.every d.version at.name (omega (arith, is.version)) s.version in
    let n = c.in_ok-name.ensures.every d.name at.key (omega (arith, is.name.fits)) (subst (λ b. SpelledText d.name b at.key) (sym v.1) s.name) in
    let k = c.in-Some.ensures.every d.key at.max_readers is.key (subst (λ b. SpelledType d.key b at.max_readers) (sym n.1) s.key) in
    let r = c.number-2.ensures.every d.max_readers at.max_nodes (omega (arith, is.max_readers)) (subst (λ b. Spelled d.max_readers b at.max_nodes) (sym k.1) s.max_readers) in
    absurd (rw (c.in_err-max_readers.was) at r)

pub returns-in_err-max_nodes-clause-every : goal.returns-in_err-max_nodes-clause-every
returns-in_err-max_nodes-clause-every c = λ d at is s.
    let v = c.in_ok-version.ensures.every d.version at.name (omega (arith, is.version)) s.version in
    let n = c.in_ok-name.ensures.every d.name at.key (omega (arith, is.name.fits)) (subst (λ b. SpelledText d.name b at.key) (sym v.1) s.name) in
    let k = c.in-Some.ensures.every d.key at.max_readers is.key (subst (λ b. SpelledType d.key b at.max_readers) (sym n.1) s.key) in
    let r = c.in_ok-max_readers.ensures.every d.max_readers at.max_nodes (omega (arith, is.max_readers)) (subst (λ b. Spelled d.max_readers b at.max_nodes) (sym k.1) s.max_readers) in
    let m = c.number-3.ensures.every d.max_nodes at.max_writers (omega (arith, is.max_nodes)) (subst (λ b. Spelled d.max_nodes b at.max_writers) (sym r.1) s.max_nodes) in
    absurd (rw (c.in_err-max_nodes.was) at m)

pub returns-in_err-max_writers-clause-every : goal.returns-in_err-max_writers-clause-every
returns-in_err-max_writers-clause-every c = λ d at is s.
    let v = c.in_ok-version.ensures.every d.version at.name (omega (arith, is.version)) s.version in
    let n = c.in_ok-name.ensures.every d.name at.key (omega (arith, is.name.fits)) (subst (λ b. SpelledText d.name b at.key) (sym v.1) s.name) in
    let k = c.in-Some.ensures.every d.key at.max_readers is.key (subst (λ b. SpelledType d.key b at.max_readers) (sym n.1) s.key) in
    let r = c.in_ok-max_readers.ensures.every d.max_readers at.max_nodes (omega (arith, is.max_readers)) (subst (λ b. Spelled d.max_readers b at.max_nodes) (sym k.1) s.max_readers) in
    let m = c.in_ok-max_nodes.ensures.every d.max_nodes at.max_writers (omega (arith, is.max_nodes)) (subst (λ b. Spelled d.max_nodes b at.max_writers) (sym r.1) s.max_nodes) in
    let w = c.writers.ensures.every d.max_writers at.attributes is.max_writers (subst (λ n. SpelledWriters n d.max_writers c.in_ok-max_nodes.bytes.now at.attributes) (sym v.0) (subst (λ b. SpelledWriters d.version d.max_writers b at.attributes) (sym m.1) s.max_writers)) in
    absurd (rw (c.in_err-max_writers.was) at w)

pub returns-clause-every : goal.returns-clause-every
returns-clause-every c = λ d at is s.
    let v = c.in_ok-version.ensures.every d.version at.name (omega (arith, is.version)) s.version in
    let n = c.in_ok-name.ensures.every d.name at.key (omega (arith, is.name.fits)) (subst (λ b. SpelledText d.name b at.key) (sym v.1) s.name) in
    let k = c.in-Some.ensures.every d.key at.max_readers is.key (subst (λ b. SpelledType d.key b at.max_readers) (sym n.1) s.key) in
    let r = c.in_ok-max_readers.ensures.every d.max_readers at.max_nodes (omega (arith, is.max_readers)) (subst (λ b. Spelled d.max_readers b at.max_nodes) (sym k.1) s.max_readers) in
    let m = c.in_ok-max_nodes.ensures.every d.max_nodes at.max_writers (omega (arith, is.max_nodes)) (subst (λ b. Spelled d.max_nodes b at.max_writers) (sym r.1) s.max_nodes) in
    let w = c.in_ok-max_writers.ensures.every d.max_writers at.attributes is.max_writers (subst (λ n. SpelledWriters n d.max_writers c.in_ok-max_nodes.bytes.now at.attributes) (sym v.0) (subst (λ b. SpelledWriters d.version d.max_writers b at.attributes) (sym m.1) s.max_writers)) in
    (w.1, is_described d _ _ _ _ _ _ v.0 (grind (arith, common_steps, n.0)) k.0 r.0 m.0 w.0)

pub returns-clause-found : goal.returns-clause-found
returns-clause-found c = λ a spelled. (
  record {
    name = c.in_ok-version.bytes.now;
    key = c.in_ok-name.bytes.now;
    max_readers = c.in-Some.bytes.now;
    max_nodes = c.in_ok-max_readers.bytes.now;
    max_writers = c.in_ok-max_nodes.bytes.now;
    attributes = c.in_ok-max_writers.attributes.now;
  },
  record {
    version = c.in_ok-version.ensures.found;
    name = subst (λ t. SpelledText t c.in_ok-version.bytes.now c.in_ok-name.bytes.now) (grind (arith, common_steps)) c.in_ok-name.ensures.found;
    key = c.in-Some.ensures.found;
    max_readers = c.in_ok-max_readers.ensures.found;
    max_nodes = c.in_ok-max_nodes.ensures.found;
    max_writers = c.in_ok-max_writers.ensures.found;
    attributes = spelled;
  },
)
