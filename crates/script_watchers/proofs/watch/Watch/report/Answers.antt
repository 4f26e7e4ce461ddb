use Rattle.std.proofs.Common.{◌≡◌, ◌<◌, ℕ, List, ◌++◌, arith, refl, ap, ◌∙◌, Some}
use Rattle.std.specs.Prelude.{codes, if◌then◌else◌}
use Rattle.std.specs.Str.{bytes_eq}
use Rattle.script_feed.specs.KeptOf.{kept_of}
use Rattle.script_watches.specs.Watchings.{Report, highest_of}
use Rattle.script_watchers.specs.declared.watch.Watch.{Watch}
use Rattle.script_watchers.proofs.WatchLemmas.{above, is_noted}
use Rattle.script_watchers.proofs.watch.Watch.report.Goals as goal

pub returns : goal.returns
returns c = record {
  listener = refl;
  rows = refl;
  phase = refl;
  calls = refl;
  got = refl;
  noted = λ x got h reported.
      let r : Report = record { handle = c.args.handle.now; got = got } in
      let old = c.args.self.now in
      let new : Watch = record { listener = old.listener; rows = old.rows; phase = old.phase; ids = old.ids; calls = old.calls; got = old.got; reported = c.keep.new.self; told = c.write_got.new.told } in
      let top : c.highest_of.result ≡ highest_of x c.args.handle.now = c.highest_of.ensures ∙ reported c.args.handle.now in
      let lt : highest_of x c.args.handle.now < got.generation = omega (arith, c.if-generation-highest_of.false, top, h.generation_is) in
      is_noted old new x r reported
      (λ p. c.in_ok-keep.ensures.ok p ∙ ap (λ (n : ℕ). if bytes_eq p c.args.handle.now then Some n else kept_of old.reported p) h.generation_is)
      (c.in_ok-write_got.ensures ∙ ap (λ (t : List ℕ). codes " " ++ (c.args.handle.now ++ (codes " " ++ t))) h.text_is)
      (above (highest_of x c.args.handle.now) got.generation lt);
}
