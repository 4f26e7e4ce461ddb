use Rattle.std.proofs.Common.{◌≡◌, ℕ, ◌<◌, ◌≤◌, true, false, List, [], ◌∷◌, ◌++◌, length, get_or, arith, refl, sym, ap, ◌∙◌}
use Rattle.std.specs.Prelude.{◌&&◌}
use Rattle.std.specs.Str.{bytes_eq}
use Rattle.script_shots.specs.declared.shot.Shot.{Shot}
use Rattle.script_shots.proofs.ShotLemmas.{got_round, got_short, got_whole}
use Rattle.script_shots.proofs.shot.Shot.got.Goals as goal

pub returns-then-len : goal.returns-then-len
returns-then-len c = λ got is x get m k.
    let old : Shot = c.args.self.now in
    let n : c.len.result ≡ length c.args.self.now.generations.items = omega (arith, c.len.ensures, c.args.self.now.generations.ok.0) in
    let at : c.index.result.now ≡ get_or c.args.self.now.handles.items (length c.args.self.now.generations.items) c.index.result.now = c.index.ensures ∙ ap (λ (i : ℕ). get_or c.args.self.now.handles.items i c.index.result.now) n in
    let count : length c.push.new.self.items ≡ length (c.args.self.now.generations.items ++ c.args.generation ∷ []) = ap (λ (l : List ℕ). length l) c.in_ok-push.ensures.items in
    let new : Shot = record { handles = c.args.self.now.handles; runs = false; has_earlier = c.args.self.now.has_earlier; earlier = c.args.self.now.earlier; generations = c.push.new.self; told = c.push_got.new.told } in
    let lt : length (c.args.self.now.generations.items ++ c.args.generation ∷ []) < length c.args.self.now.handles.items = omega (arith, c.if-len.true, c.len-2.ensures, c.len-3.ensures, c.push.new.self.ok.0, c.args.self.now.handles.ok.0, count) in
    got_short old new x get m got c.index.result.now c.args.text.now c.args.generation k c.requires.room at is lt refl refl refl refl c.in_ok-push.ensures.items c.in_ok-push_got.ensures

pub returns-then-is_alike : goal.returns-then-is_alike
returns-then-is_alike c = λ got is x get m k.
    let old : Shot = c.args.self.now in
    let n : c.len.result ≡ length c.args.self.now.generations.items = omega (arith, c.len.ensures, c.args.self.now.generations.ok.0) in
    let at : c.index.result.now ≡ get_or c.args.self.now.handles.items (length c.args.self.now.generations.items) c.index.result.now = c.index.ensures ∙ ap (λ (i : ℕ). get_or c.args.self.now.handles.items i c.index.result.now) n in
    let count : length c.push.new.self.items ≡ length (c.args.self.now.generations.items ++ c.args.generation ∷ []) = ap (λ (l : List ℕ). length l) c.in_ok-push.ensures.items in
    let new : Shot = record { handles = c.args.self.now.handles; runs = false; has_earlier = c.args.self.now.has_earlier; earlier = c.args.self.now.earlier; generations = c.push.new.self; told = c.push_got.new.told } in
    let le : length c.args.self.now.handles.items ≤ length (c.args.self.now.generations.items ++ c.args.generation ∷ []) = omega (arith, c.if-len.false, c.len-2.ensures, c.len-3.ensures, c.push.new.self.ok.0, c.args.self.now.handles.ok.0, count) in
    let alike : (c.args.self.now.has_earlier && bytes_eq c.args.self.now.earlier.items (c.args.self.now.generations.items ++ c.args.generation ∷ [])) ≡ true =
    ap (λ (l : List ℕ). c.args.self.now.has_earlier && bytes_eq c.args.self.now.earlier.items l) (sym c.in_ok-push.ensures.items) ∙ sym c.is_alike.ensures ∙ c.if-is_alike.true in
    got_whole old new x get m got c.index.result.now c.args.text.now c.args.generation k c.requires.room at is le alike c.in_ok-push_got.ensures

pub returns : goal.returns
returns c = λ got is x get m k.
    let old : Shot = c.args.self.now in
    let n : c.len.result ≡ length c.args.self.now.generations.items = omega (arith, c.len.ensures, c.args.self.now.generations.ok.0) in
    let at : c.index.result.now ≡ get_or c.args.self.now.handles.items (length c.args.self.now.generations.items) c.index.result.now = c.index.ensures ∙ ap (λ (i : ℕ). get_or c.args.self.now.handles.items i c.index.result.now) n in
    let count : length c.push.new.self.items ≡ length (c.args.self.now.generations.items ++ c.args.generation ∷ []) = ap (λ (l : List ℕ). length l) c.in_ok-push.ensures.items in
    let new : Shot = record { handles = c.args.self.now.handles; runs = false; has_earlier = true; earlier = c.swap.new.x; generations = c.clear.new.self; told = c.clear-2.new.self } in
    let le : length c.args.self.now.handles.items ≤ length (c.args.self.now.generations.items ++ c.args.generation ∷ []) = omega (arith, c.if-len.false, c.len-2.ensures, c.len-3.ensures, c.push.new.self.ok.0, c.args.self.now.handles.ok.0, count) in
    let unlike : (c.args.self.now.has_earlier && bytes_eq c.args.self.now.earlier.items (c.args.self.now.generations.items ++ c.args.generation ∷ [])) ≡ false =
    ap (λ (l : List ℕ). c.args.self.now.has_earlier && bytes_eq c.args.self.now.earlier.items l) (sym c.in_ok-push.ensures.items) ∙ sym c.is_alike.ensures ∙ c.if-is_alike.false in
    let earlier : c.swap.new.x.items ≡ c.args.self.now.generations.items ++ c.args.generation ∷ [] = rw c.swap.ensures.x_after c.in_ok-push.ensures.items in
    got_round old new x get m got c.index.result.now c.args.text.now c.args.generation k c.requires.room at is le unlike refl refl refl earlier c.clear.ensures.items c.clear-2.ensures.items
