-- A snapshot that is kept follows the answers.
use Rattle.std.proofs.Common.{◌≡◌, ℕ, zero, suc, ◌<◌, ◌≤◌, Bool, true, false, eqb, List, [], ◌∷◌, ◌++◌, length, get_or, arith, refl, sym, ap, subst, ◌∙◌, append_assoc, inl, inr, Option, Some, None}
use Rattle.std.specs.Prelude.{◌&&◌, codes, if◌then◌else◌, is_some}
use Rattle.std.specs.Str.{bytes_eq}
use Rattle.std.specs.List.{AllByRecursion}
use Rattle.std.proofs.lemmas.Bool.{eqb-true, false≢true}
use Rattle.std.proofs.lemmas.List.{append-nil, length-append, length-map, map-append}
use Rattle.board_model.specs.declared.line.Call.TheVariants as call
use Rattle.board_model.specs.declared.line.Line.TheVariants as board_line
use Rattle.board_model.specs.LineGrammar.{is_name, spell}
use Rattle.script_model.specs.ScriptAnswers.{ScriptAnswer, is_refused, script_answer_line}
use Rattle.script_model.specs.ScriptGrammar.{script_spell}
use Rattle.script_model.specs.ScriptSession.{Session}
use Rattle.script_moments.specs.Moments.{Moment}
use Rattle.script_moments.specs.Gets.{Get, Round, ended_get, generations}
use Rattle.script_exchanges.specs.DrivenParties.{Got, got_by}
use Rattle.script_feed.specs.AnswerLooks.{EndsGet, GoesOnGet, HasGot}
use Rattle.script_snapshots.specs.Takings.{Taking, after_round, begun_get, ended, get_text, gets_text, goes_on, is_alike, moment_of, new_taking, next_handle, next_line, next_of, shot_so, stepped_get, taken, taken_on}
use Rattle.script_shots.specs.declared.shot.Progress.{Progress}
use Rattle.script_shots.specs.declared.shot.Progress.TheVariants.{GoesOn, Refused, Whole}
use Rattle.script_shots.specs.declared.shot.Shot.{Shot}
use Rattle.script_shots.specs.Shots.{Fits, FitsGet, IsGetting, IsGoingOn, IsProgress, Keeps, last_generations}

-- ---- what is written of gets

pub gets_none : (hs : List (List ℕ)) → gets_text hs [] ≡ []
gets_none [] = refl
gets_none (h ∷ hs) = refl

gets_more : (hs : List (List ℕ)) (gets : Round) (x : Get) → length gets < length hs → gets_text hs (gets ++ x ∷ []) ≡ gets_text hs gets ++ get_text (get_or hs (length gets) []) x
gets_more [] gets x lt = absurd (omega arith)
gets_more (h ∷ hs) [] x lt = ap (λ (t : List ℕ). get_text h x ++ t) (gets_none hs) ∙ append-nil (get_text h x)
gets_more (h ∷ hs) (y ∷ ys) x lt = ap (λ (t : List ℕ). get_text h y ++ t) (gets_more hs ys x (omega arith)) ∙ sym (append_assoc (get_text h y) (gets_text hs ys) (get_text (get_or hs (length ys) []) x))

-- ---- rounds

last_more : (rounds : List Round) (gets : Round) → last_generations (rounds ++ gets ∷ []) ≡ Some (generations gets)
last_more [] gets = refl
last_more (one ∷ []) gets = refl
last_more (one ∷ two ∷ more) gets = last_more (two ∷ more) gets

alike_some : (gs : List ℕ) (rounds : List Round) (gets : Round) → last_generations rounds ≡ Some gs → is_alike rounds gets ≡ bytes_eq gs (generations gets)
alike_some gs [] gets e = absurd cc
alike_some gs (one ∷ []) gets e = let k : generations one ≡ gs = cc in ap (λ (g : List ℕ). bytes_eq g (generations gets)) k
alike_some gs (one ∷ two ∷ more) gets e = alike_some gs (two ∷ more) gets e

alike_none : (rounds : List Round) (gets : Round) → last_generations rounds ≡ None → is_alike rounds gets ≡ false
alike_none [] gets e = refl
alike_none (one ∷ []) gets e = absurd cc
alike_none (one ∷ two ∷ more) gets e = alike_none (two ∷ more) gets e

alike_is : (has : Bool) (earlier : List ℕ) (rounds : List Round) (gets : Round) → last_generations rounds ≡ (if has then Some earlier else None) → is_alike rounds gets ≡ (has && bytes_eq earlier (generations gets))
alike_is true earlier rounds gets e = alike_some earlier rounds gets e
alike_is false earlier rounds gets e = alike_none rounds gets e

-- ---- a new snapshot

pub new_keeps : (c : Shot) (handles : List (List ℕ)) → AllByRecursion (λ n. is_name n ≡ true) handles → c.handles.items ≡ handles → c.runs ≡ false → c.has_earlier ≡ false → c.generations.items ≡ [] → c.told.items ≡ [] → Keeps c (new_taking handles)
new_keeps c handles named h r e g t = record {
  handles = h;
  named = named;
  runs = r;
  earlier = ap (λ (b : Bool). if b then Some c.earlier.items else None) (sym e);
  generations = g;
  told = t ∙ sym (gets_none handles);
}

-- ---- the next line

spell_step : (party handle : List ℕ) (o : Option (Moment × List Moment)) → is_some o ≡ true → spell (board_line.Step party) ≡ script_spell (next_of party handle o)
spell_step party handle None e = absurd (false≢true e)
spell_step party handle (Some get) e = refl

spell_begin : (party handle : List ℕ) (o : Option (Moment × List Moment)) → is_some o ≡ false → spell (board_line.Begin party (call.Get handle None)) ≡ script_spell (next_of party handle o)
spell_begin party handle None e = refl
spell_begin party handle (Some get) e = absurd (false≢true (sym e))

pub step_line : (c : Shot) (x : Taking) (party line : List ℕ) → Keeps c x → c.runs ≡ true → line ≡ spell (board_line.Step party) → line ≡ script_spell (next_line party x)
step_line c x party line k r e = e ∙ spell_step party (next_handle x) x.shot.begun (sym k.runs ∙ r)

-- as many gets as generations
pub gets_length : (c : Shot) (x : Taking) → Keeps c x → length c.generations.items ≡ length x.shot.gets
gets_length c x k = ap (λ (g : List ℕ). length g) k.generations ∙ length-map x.shot.gets (λ (y : Get). y.generation)

get_any : (hs : List (List ℕ)) (n : ℕ) (d e : List ℕ) → n < length hs → get_or hs n d ≡ get_or hs n e
get_any [] n d e lt = absurd (omega arith)
get_any (h ∷ hs) zero d e lt = refl
get_any (h ∷ hs) (suc n) d e lt = get_any hs n d e (omega arith)

-- the handle at the place of the next get
pub handle_is : (c : Shot) (x : Taking) (handle : List ℕ) → Keeps c x → length c.generations.items < length c.handles.items → handle ≡ get_or c.handles.items (length c.generations.items) handle → handle ≡ next_handle x
handle_is c x handle k room at =
    at ∙ get_any c.handles.items (length c.generations.items) handle [] room
    ∙ ap (λ (n : ℕ). get_or c.handles.items n []) (gets_length c x k) ∙ ap (λ (hs : List (List ℕ)). get_or hs (length x.shot.gets) []) k.handles

pub begin_line : (c : Shot) (x : Taking) (party handle line : List ℕ) → Keeps c x → c.runs ≡ false → length c.generations.items < length c.handles.items → handle ≡ get_or c.handles.items (length c.generations.items) handle → line ≡ spell (board_line.Begin party (call.Get handle None)) → line ≡ script_spell (next_line party x)
begin_line c x party handle line k r room at e =
    e ∙ ap (λ (h : List ℕ). spell (board_line.Begin party (call.Get h None))) (handle_is c x handle k room at) ∙ spell_begin party (next_handle x) x.shot.begun (sym k.runs ∙ r)

-- ---- a get that ends

module _ (old new : Shot) (x : Taking) (get : Moment × List Moment) (m : Moment) (got : Got) (handle text : List ℕ) (g : ℕ) (k : Keeps old x) (room : length old.generations.items < length old.handles.items) (at : handle ≡ get_or old.handles.items (length old.generations.items) handle) (is : HasGot text g got) where
  abbrev Gets : Round
  Gets = x.shot.gets ++ ended_get get.0 get.1 m got.type got.words got.generation ∷ []

  abbrev Written : List ℕ
  Written = old.told.items ++ (codes " " ++ (handle ++ (codes " " ++ text)))

  gets_are : old.generations.items ++ g ∷ [] ≡ generations Gets
  gets_are =
      ap (λ (l : List ℕ). l ++ g ∷ []) k.generations ∙ ap (λ (n : ℕ). generations x.shot.gets ++ n ∷ []) is.generation_is
      ∙ sym (map-append (λ (y : Get). y.generation) x.shot.gets (ended_get get.0 get.1 m got.type got.words got.generation ∷ []))

  gets_count : length (old.generations.items ++ g ∷ []) ≡ length Gets
  gets_count = ap (λ (l : List ℕ). length l) gets_are ∙ length-map Gets (λ (y : Get). y.generation)

  written_is : Written ≡ gets_text x.handles Gets
  written_is =
      let more = gets_more x.handles x.shot.gets (ended_get get.0 get.1 m got.type got.words got.generation) (omega (arith, room, gets_length old x k, ap (λ (l : List (List ℕ)). length l) k.handles)) in
      ap (λ (t : List ℕ). t ++ (codes " " ++ (handle ++ (codes " " ++ text)))) k.told
      ∙ ap (λ (h : List ℕ). gets_text x.handles x.shot.gets ++ (codes " " ++ (h ++ (codes " " ++ text)))) (handle_is old x handle k room at)
      ∙ ap (λ (t : List ℕ). gets_text x.handles x.shot.gets ++ (codes " " ++ (next_handle x ++ (codes " " ++ t)))) is.text_is
      ∙ sym more

  short_round : (b : Bool) → eqb (length Gets) (length x.handles) ≡ b → length Gets < length x.handles → IsProgress new GoesOn (goes_on (shot_so x x.shot.rounds Gets None)) → IsProgress new GoesOn (if b then after_round x Gets (is_alike x.shot.rounds Gets) else goes_on (shot_so x x.shot.rounds Gets None))
  short_round false e lt h = h
  short_round true e lt h = absurd (let s = eqb-true (length Gets) (length x.handles) e in omega arith)

  full_round : (p : Progress) (b : Bool) → eqb (length Gets) (length x.handles) ≡ b → length Gets ≡ length x.handles → IsProgress new p (after_round x Gets (is_alike x.shot.rounds Gets)) → IsProgress new p (if b then after_round x Gets (is_alike x.shot.rounds Gets) else goes_on (shot_so x x.shot.rounds Gets None))
  full_round p true e full h = h
  full_round p false e full h = absurd (false≢true (sym e ∙ ap (λ (n : ℕ). eqb n (length x.handles)) full ∙ same (length x.handles)))
    where
      same : (n : ℕ) → eqb n n ≡ true
      same n = grind arith

  handles_count : length x.handles ≡ length old.handles.items
  handles_count = ap (λ (l : List (List ℕ)). length l) (sym k.handles)

  pub got_short : length (old.generations.items ++ g ∷ []) < length old.handles.items → new.handles.items ≡ old.handles.items → new.runs ≡ false → new.has_earlier ≡ old.has_earlier → new.earlier.items ≡ old.earlier.items → new.generations.items ≡ old.generations.items ++ g ∷ [] → new.told.items ≡ Written → IsProgress new GoesOn (stepped_get x get m (Some got))
  got_short lt h r he e gs t = short_round (eqb (length Gets) (length x.handles)) refl (omega (arith, lt, gets_count, handles_count)) (record {
    handles = h ∙ k.handles;
    named = k.named;
    runs = r;
    earlier = k.earlier ∙ ap (λ (b : Bool). if b then Some old.earlier.items else None) (sym he) ∙ ap (λ (l : List ℕ). if new.has_earlier then Some l else None) (sym e);
    generations = gs ∙ gets_are;
    told = t ∙ written_is;
  })

  full_is : old.handles.items ≡ old.handles.items → length old.handles.items ≤ length (old.generations.items ++ g ∷ []) → length Gets ≡ length x.handles
  full_is h le = omega (arith, le, room, gets_count, handles_count, length-append old.generations.items (g ∷ []))

  alike_now : is_alike x.shot.rounds Gets ≡ (old.has_earlier && bytes_eq old.earlier.items (old.generations.items ++ g ∷ []))
  alike_now = alike_is old.has_earlier old.earlier.items x.shot.rounds Gets k.earlier ∙ ap (λ (l : List ℕ). old.has_earlier && bytes_eq old.earlier.items l) (sym gets_are)

  pub got_whole : length old.handles.items ≤ length (old.generations.items ++ g ∷ []) → (old.has_earlier && bytes_eq old.earlier.items (old.generations.items ++ g ∷ [])) ≡ true → new.told.items ≡ Written → IsProgress new Whole (stepped_get x get m (Some got))
  got_whole le alike t =
      let a : is_alike x.shot.rounds Gets ≡ true = alike_now ∙ alike in
      full_round Whole (eqb (length Gets) (length x.handles)) refl (full_is refl le)
      (subst (λ (b : Bool). IsProgress new Whole (after_round x Gets b)) (sym a) (t ∙ written_is))

  pub got_round : length old.handles.items ≤ length (old.generations.items ++ g ∷ []) → (old.has_earlier && bytes_eq old.earlier.items (old.generations.items ++ g ∷ [])) ≡ false → new.handles.items ≡ old.handles.items → new.runs ≡ false → new.has_earlier ≡ true → new.earlier.items ≡ old.generations.items ++ g ∷ [] → new.generations.items ≡ [] → new.told.items ≡ [] → IsProgress new GoesOn (stepped_get x get m (Some got))
  got_round le unlike h r he e gs t =
      let a : is_alike x.shot.rounds Gets ≡ false = alike_now ∙ unlike in
      full_round GoesOn (eqb (length Gets) (length x.handles)) refl (full_is refl le)
      (subst (λ (b : Bool). IsProgress new GoesOn (after_round x Gets b)) (sym a) (record {
        handles = h ∙ k.handles;
        named = k.named;
        runs = r;
        earlier = last_more x.shot.rounds Gets ∙ ap (λ (l : List ℕ). Some l) (sym gets_are ∙ sym e) ∙ ap (λ (b : Bool). if b then Some new.earlier.items else None) (sym he);
        generations = gs;
        told = t ∙ sym (gets_none x.handles);
      }))

-- ---- with an answer

module _ (old new : Shot) (fed : Session) (party : List ℕ) (x : Taking) (a : ScriptAnswer) (bytes : List ℕ) (k : Keeps old x) (fits : Fits x a) (told : bytes ≡ script_answer_line a) where
  pub took_refused : is_refused a ≡ true → IsProgress new Refused (taken fed party x a)
  took_refused e = subst (λ (b : Bool). IsProgress new Refused (if b then ended else taken_on fed x x.shot.begun (moment_of fed party x a) (got_by a))) (sym e) tt

  accepted : (p : Progress) → is_refused a ≡ false → IsProgress new p (taken_on fed x x.shot.begun (moment_of fed party x a) (got_by a)) → IsProgress new p (taken fed party x a)
  accepted p e h = subst (λ (b : Bool). IsProgress new p (if b then ended else taken_on fed x x.shot.begun (moment_of fed party x a) (got_by a))) (sym e) h

  begins_so : (o : Option (Moment × List Moment)) → is_some o ≡ false → IsProgress new GoesOn (goes_on (begun_get fed x (moment_of fed party x a))) → IsProgress new GoesOn (taken_on fed x o (moment_of fed party x a) (got_by a))
  begins_so None e h = h
  begins_so (Some get) e h = absurd (false≢true (sym e))

  pub took_begins : is_refused a ≡ false → old.runs ≡ false → new.handles.items ≡ old.handles.items → new.runs ≡ true → new.has_earlier ≡ old.has_earlier → new.earlier.items ≡ old.earlier.items → new.generations.items ≡ old.generations.items → new.told.items ≡ old.told.items → IsProgress new GoesOn (taken fed party x a)
  took_begins e r h runs he ea gs t = accepted GoesOn e (begins_so x.shot.begun (sym k.runs ∙ r) (record {
    handles = h ∙ k.handles;
    named = k.named;
    runs = runs;
    earlier = k.earlier ∙ ap (λ (b : Bool). if b then Some old.earlier.items else None) (sym he) ∙ ap (λ (l : List ℕ). if new.has_earlier then Some l else None) (sym ea);
    generations = gs ∙ k.generations;
    told = t ∙ k.told;
  }))

  steps_so : (p : Progress) (o : Option (Moment × List Moment)) → is_some o ≡ true → ((get : Moment × List Moment) → FitsGet (Some get) a → IsProgress new p (stepped_get x get (moment_of fed party x a) (got_by a))) → FitsGet o a → IsProgress new p (taken_on fed x o (moment_of fed party x a) (got_by a))
  steps_so p None e h f = absurd (false≢true e)
  steps_so p (Some get) e h f = h get f

  fits_so : is_refused a ≡ false → Fits x a → FitsGet x.shot.begun a
  fits_so e (inl r) = absurd (false≢true (sym e ∙ r))
  fits_so e (inr r) = r.1

  stepped : (p : Progress) → is_refused a ≡ false → old.runs ≡ true → ((get : Moment × List Moment) → FitsGet (Some get) a → IsProgress new p (stepped_get x get (moment_of fed party x a) (got_by a))) → IsProgress new p (taken fed party x a)
  stepped p e r h = accepted p e (steps_so p x.shot.begun (sym k.runs ∙ r) h (fits_so e fits))

  -- the bytes are those of a step that goes on, or that ends the get
  going_bytes : (g : IsGoingOn a) → GoesOnGet bytes
  going_bytes g = (g.0, g.1, told ∙ ap script_answer_line g.2)

  ending_bytes : (g : IsGetting a) → EndsGet bytes g.1
  ending_bytes g = (g.0, g.2, told ∙ ap script_answer_line g.3)

  going_none : IsGoingOn a → got_by a ≡ None
  going_none g = ap got_by g.2

  getting_some : (g : IsGetting a) → got_by a ≡ Some g.1
  getting_some g = ap got_by g.3

  pub took_goes : is_refused a ≡ false → old.runs ≡ true → ((got : Got) → EndsGet bytes got → ⊥) → new ≡ old → IsProgress new GoesOn (taken fed party x a)
  took_goes e r none same = stepped GoesOn e r by
    where
      keeps : (get : Moment × List Moment) → Keeps new (shot_so x x.shot.rounds x.shot.gets (Some (get.0, get.1 ++ moment_of fed party x a ∷ [])))
      keeps get = subst (λ (c : Shot). Keeps c (shot_so x x.shot.rounds x.shot.gets (Some (get.0, get.1 ++ moment_of fed party x a ∷ [])))) (sym same) (record { handles = k.handles; named = k.named; runs = r; earlier = k.earlier; generations = k.generations; told = k.told })

      by : (get : Moment × List Moment) → FitsGet (Some get) a → IsProgress new GoesOn (stepped_get x get (moment_of fed party x a) (got_by a))
      by get (inl g) = subst (λ (o : Option Got). IsProgress new GoesOn (stepped_get x get (moment_of fed party x a) o)) (sym (going_none g)) (keeps get)
      by get (inr g) = absurd (none g.1 (ending_bytes g))

  pub took_got : (p : Progress) (text : List ℕ) (n : ℕ) → is_refused a ≡ false → old.runs ≡ true → (GoesOnGet bytes → ⊥) → ((got : Got) → EndsGet bytes got → HasGot text n got) → ((got : Got) → HasGot text n got → (y : Taking) (get : Moment × List Moment) (m : Moment) → Keeps old y → IsProgress new p (stepped_get y get m (Some got))) → IsProgress new p (taken fed party x a)
  took_got p text n e r some has follows = stepped p e r by
    where
      by : (get : Moment × List Moment) → FitsGet (Some get) a → IsProgress new p (stepped_get x get (moment_of fed party x a) (got_by a))
      by get (inl g) = absurd (some (going_bytes g))
      by get (inr g) = subst (λ (o : Option Got). IsProgress new p (stepped_get x get (moment_of fed party x a) o)) (sym (getting_some g)) (follows g.1 (has g.1 (ending_bytes g)) x get (moment_of fed party x a) k)
