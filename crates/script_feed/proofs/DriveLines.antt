-- The lines of scripts whose parties can be driven are read back from their bytes, and what is read is spelled so.
use Rattle.std.proofs.Common.{◌≡◌, ℕ, ◌+◌, ◌<◌, ◌≤◌, Bool, true, false, List, [], ◌∷◌, length, eqb, refl, sym, ap, subst, ◌∙◌, arith, zero-add, Option, Some, None}
use Rattle.std.specs.Prelude.{◌||◌, codes, IfNone, IfSome, IsSome}
use Rattle.std.specs.Str.{bytes_eq}
use Rattle.std.specs.List.{AllByRecursion, join_with_byte, list_all}
use Rattle.std.proofs.lemmas.Bool.{false≢true}
use Rattle.std.proofs.lemmas.List.Splits.{join_with_byte-slice_split, length-slice_split}
use Rattle.board_model.specs.LineGrammar.{is_name}
use Rattle.board_model.specs.declared.line.Line.TheVariants as board_line
use Rattle.script_model.specs.declared.line.ScriptLine.{ScriptLine}
use Rattle.script_model.specs.declared.line.ScriptLine.TheVariants as line
use Rattle.script_model.specs.ScriptGrammar.{SpellsLine, script_tokens}
use Rattle.script_grammar.specs.TokenReading.{first_by, guard, is_end, read_name, split_tokens}
use Rattle.script_grammar.proofs.ReaderLemmas.{bind_some, both, end_takes, first_takes, guard_some, some_is}
use Rattle.script_grammar.proofs.SpaceLemmas.{split_script}
use Rattle.script_grammar.proofs.SplitLemmas.{IsFree, free_name, split_free}
use Rattle.script_grammar.proofs.TokenLemmas.{name_again, name_takes}
use Rattle.script_parse.specs.Kept.{SpellsKept}
use Rattle.script_exchanges.specs.declared.line.Drive.{Drive}
use Rattle.script_exchanges.specs.declared.line.Drive.TheVariants.{Snapshots, Watchers}
use Rattle.script_exchanges.specs.declared.line.DriveLine.{DriveLine}
use Rattle.script_exchanges.specs.declared.line.DriveLine.TheVariants.{Script, Start, Turn}
use Rattle.script_exchanges.specs.DriveGrammar.{AreThings, SpellsDrive, SpellsNoDrive, drive_tokens, start_word}
use Rattle.script_feed.specs.DriveReading.{IsPlainLine, are_things, has_place_for, read_start, read_turn}
use Rattle.script_feed.proofs.WordLemmas.{each_named, is_place, named_each, place_is}

-- ---- a turn

pub record IsTurnOf (ts : List (List ℕ)) (l : DriveLine) : Type 0 where
  pub party : List ℕ
  pub is : l ≡ Turn party
  pub tokens : ts ≡ party ∷ []
  pub named : is_name party ≡ true

turn_takes : (ts : List (List ℕ)) (l : DriveLine) → read_turn ts ≡ Some l → IsTurnOf ts l
turn_takes ts l e =
    let p = bind_some (first_by read_name ts) (λ p. guard (is_end p.1) (Some (Turn p.0))) l e in
    let t = first_takes read_name ts p.0 p.1 in
    let n = name_takes t.token p.0.0 t.is in
    let g = guard_some (is_end p.0.1) (Some (Turn p.0.0)) l p.2 in
    record {
      party = p.0.0;
      is = sym (some_is (Turn p.0.0) l g.1);
      tokens = t.all ∙ ap (λ (x : List ℕ). x ∷ p.0.1) n.token ∙ ap (λ (x : List (List ℕ)). p.0.0 ∷ x) (end_takes p.0.1 g.0);
      named = n.named;
    }

turn_again : (party : List ℕ) → is_name party ≡ true → read_turn (party ∷ []) ≡ Some (Turn party)
turn_again party h = rw (name_again party h) refl

-- ---- the line that starts to drive a party

pub record IsStartOf (d : Drive) (ts : List (List ℕ)) (l : DriveLine) : Type 0 where
  pub party : List ℕ
  pub things : List (List ℕ)
  pub is : l ≡ Start party things
  pub tokens : ts ≡ party ∷ things
  pub named : is_name party ≡ true
  pub are : AreThings d things

start_takes : (d : Drive) (ts : List (List ℕ)) (l : DriveLine) → read_start d ts ≡ Some l → IsStartOf d ts l
start_takes d ts l e =
    let p = bind_some (first_by read_name ts) (λ p. guard (are_things d 0 p.1) (Some (Start p.0 p.1))) l e in
    let t = first_takes read_name ts p.0 p.1 in
    let n = name_takes t.token p.0.0 t.is in
    let g = guard_some (are_things d 0 p.0.1) (Some (Start p.0.0 p.0.1)) l p.2 in
    let b = both (list_all is_name p.0.1) (has_place_for d (0 + length p.0.1)) g.0 in
    let place = place_is d (length p.0.1) (subst (λ (n : ℕ). has_place_for d n ≡ true) (zero-add (length p.0.1)) b.1) in
    record {
      party = p.0.0;
      things = p.0.1;
      is = sym (some_is (Start p.0.0 p.0.1) l g.1);
      tokens = t.all ∙ ap (λ (x : List ℕ). x ∷ p.0.1) n.token;
      named = n.named;
      are = record { named = named_each p.0.1 b.0; least = place.0; most = place.1 };
    }

start_again : (d : Drive) (party : List ℕ) (things : List (List ℕ)) → is_name party ≡ true → AreThings d things → read_start d (party ∷ things) ≡ Some (Start party things)
start_again d party things h are = rw (name_again party h, each_named things are.named, zero-add (length things), is_place d (length things) are.least are.most) refl

-- ---- tokens

free_names : (ts : List (List ℕ)) → AllByRecursion (λ n. is_name n ≡ true) ts → AllByRecursion (IsFree 32) ts
free_names [] h = tt
free_names (t ∷ ts) h = (free_name 32 refl t h.0, free_names ts h.1)

free_start : (d : Drive) → IsFree 32 (start_word d)
free_start Snapshots = refl
free_start Watchers = refl

-- the tokens of the bytes of a line
pub split_drive : (d : Drive) (bytes : List ℕ) (l : DriveLine) → SpellsDrive d bytes l → split_tokens bytes ≡ drive_tokens d l
split_drive d bytes (Script l) s = ap split_tokens s.bytes ∙ split_script l s.line
split_drive d bytes (Start party things) s = ap split_tokens s.bytes ∙ split_free 32 refl (start_word d ∷ party ∷ things) (omega arith) (free_start d, (free_name 32 refl party s.line.0, free_names things s.line.1.named))
split_drive d bytes (Turn party) s = ap split_tokens s.bytes ∙ split_free 32 refl (codes "turn" ∷ party ∷ []) (omega arith) (refl, (free_name 32 refl party s.line, tt))

joined : (bytes : List ℕ) (ts : List (List ℕ)) → split_tokens bytes ≡ ts → bytes ≡ join_with_byte 32 ts
joined bytes ts e = sym (join_with_byte-slice_split 32 bytes) ∙ ap (join_with_byte 32) e

-- ---- the first token

first_of_tokens : List (List ℕ) → List ℕ
first_of_tokens [] = []
first_of_tokens (t ∷ ts) = t

abbrev is_script_word : List ℕ → Bool
is_script_word w =
    bytes_eq w (codes "begin") || (bytes_eq w (codes "step") || (bytes_eq w (codes "drop") || (bytes_eq w (codes "abandon") || (bytes_eq w (codes "words") || bytes_eq w (codes "expire")))))

-- a line of a plain script begins with one of its words
script_word : (l : ScriptLine) → is_script_word (first_of_tokens (script_tokens l)) ≡ true
unfolding first_of_tokens
script_word (line.Board (board_line.Begin p c)) = refl
script_word (line.Board (board_line.Step p)) = refl
script_word (line.Board (board_line.Release p t)) = refl
script_word (line.Board (board_line.Abandon p)) = refl
script_word (line.Board (board_line.Words b)) = refl
script_word (line.Event p q) = refl
script_word (line.Expire p) = refl

first_is : (w : List ℕ) (ts us : List (List ℕ)) → us ≡ w ∷ ts → first_of_tokens us ≡ w
unfolding first_of_tokens
first_is w ts us e = ap first_of_tokens e

pub rest_is : (w v : List ℕ) (ts us : List (List ℕ)) → w ∷ ts ≡ v ∷ us → ts ≡ us
rest_is w v ts us e = cc

pub head_is : (w v : List ℕ) (ts us : List (List ℕ)) → w ∷ ts ≡ v ∷ us → w ≡ v
head_is w v ts us e = cc

pub no_script : (d : Drive) (bytes w : List ℕ) (ts : List (List ℕ)) (l : ScriptLine) → split_tokens bytes ≡ w ∷ ts → is_script_word w ≡ false → SpellsDrive d bytes (Script l) → ⊥
no_script d bytes w ts l e f s =
    let t : script_tokens l ≡ w ∷ ts = sym (split_drive d bytes (Script l) s) ∙ e in
    let is : is_script_word w ≡ true = sym (ap is_script_word (first_is w ts (script_tokens l) t)) ∙ script_word l in
    false≢true (sym f ∙ is)

pub start_is_no_script : (d : Drive) → is_script_word (start_word d) ≡ false
start_is_no_script Snapshots = refl
start_is_no_script Watchers = refl

pub start_is_no_turn : (d : Drive) → bytes_eq (start_word d) (codes "turn") ≡ false
start_is_no_turn Snapshots = refl
start_is_no_turn Watchers = refl

-- ---- lines from bytes

-- bytes have a first token
pub some_word : (bytes : List ℕ) → split_tokens bytes ≡ [] → ⊥
some_word bytes e = let n : length (split_tokens bytes) ≡ 0 = ap (λ (x : List (List ℕ)). length x) e in omega (arith, n, length-slice_split (λ b. eqb b 32) bytes)

pub too_long : (d : Drive) (bytes : List ℕ) → 4096 < length bytes → SpellsNoDrive d bytes
too_long d bytes lt = λ l s. omega (arith, s.short, lt)

module _ (d : Drive) (bytes : List ℕ) (short : length bytes ≤ 4096) (word : List ℕ) (ts : List (List ℕ)) (words : split_tokens bytes ≡ word ∷ ts) where
  -- behind `turn`
  pub turn_found : (o : Option DriveLine) → word ≡ codes "turn" → o ≡ read_turn ts → IfSome o (λ l. SpellsDrive d bytes l)
  turn_found None w e = tt
  turn_found (Some l) w e =
      let t = turn_takes ts l (sym e) in
      let spelled : SpellsDrive d bytes (Turn t.party) = record { line = t.named; bytes = joined bytes (codes "turn" ∷ t.party ∷ []) (words ∙ ap (λ (x : List ℕ). x ∷ ts) w ∙ ap (λ (x : List (List ℕ)). codes "turn" ∷ x) t.tokens); short = short } in
      subst (SpellsDrive d bytes) (sym t.is) spelled

  pub turn_only : (o : Option DriveLine) → word ≡ codes "turn" → o ≡ read_turn ts → IfNone o (SpellsNoDrive d bytes)
  turn_only (Some l) w e = tt
  turn_only None w e = none
    where
      none : SpellsNoDrive d bytes
      none (Script l) s = no_script d bytes word ts l words (ap is_script_word w) s
      none (Start party things) s =
          let same : word ≡ start_word d = head_is word (start_word d) ts (party ∷ things) (sym words ∙ split_drive d bytes (Start party things) s) in
          false≢true (sym (start_is_no_turn d) ∙ ap (λ (x : List ℕ). bytes_eq x (codes "turn")) (sym same ∙ w))
      none (Turn party) s =
          let rest : ts ≡ party ∷ [] = rest_is word (codes "turn") ts (party ∷ []) (sym words ∙ split_drive d bytes (Turn party) s) in
          let there : None ≡ Some (Turn party) = e ∙ ap read_turn rest ∙ turn_again party s.line in
          cc

  -- behind the word that starts to drive a party
  pub start_found : (o : Option DriveLine) → word ≡ start_word d → o ≡ read_start d ts → IfSome o (λ l. SpellsDrive d bytes l)
  start_found None w e = tt
  start_found (Some l) w e =
      let t = start_takes d ts l (sym e) in
      let spelled : SpellsDrive d bytes (Start t.party t.things) = record { line = (t.named, t.are); bytes = joined bytes (start_word d ∷ t.party ∷ t.things) (words ∙ ap (λ (x : List ℕ). x ∷ ts) w ∙ ap (λ (x : List (List ℕ)). start_word d ∷ x) t.tokens); short = short } in
      subst (SpellsDrive d bytes) (sym t.is) spelled

  pub start_only : (o : Option DriveLine) → word ≡ start_word d → o ≡ read_start d ts → IfNone o (SpellsNoDrive d bytes)
  start_only (Some l) w e = tt
  start_only None w e = none
    where
      none : SpellsNoDrive d bytes
      none (Script l) s = no_script d bytes word ts l words (ap is_script_word w ∙ start_is_no_script d) s
      none (Start party things) s =
          let rest : ts ≡ party ∷ things = rest_is word (start_word d) ts (party ∷ things) (sym words ∙ split_drive d bytes (Start party things) s) in
          let there : None ≡ Some (Start party things) = e ∙ ap (read_start d) rest ∙ start_again d party things s.line.0 s.line.1 in
          cc
      none (Turn party) s =
          let same : word ≡ codes "turn" = head_is word (codes "turn") ts (party ∷ []) (sym words ∙ split_drive d bytes (Turn party) s) in
          false≢true (sym (start_is_no_turn d) ∙ ap (λ (x : List ℕ). bytes_eq x (codes "turn")) (sym w ∙ same))

  pub start_kept : (o : Option DriveLine) → word ≡ start_word d → o ≡ read_start d ts → IsSome o → (l : DriveLine) × SpellsDrive d bytes l
  start_kept None w e some = absurd (false≢true some)
  start_kept (Some l) w e some = (l, start_found (Some l) w e)

  -- behind any other word
  pub plain_found : (o : Option DriveLine) → IfSome o (IsPlainLine bytes) → IfSome o (λ l. SpellsDrive d bytes l)
  plain_found None h = tt
  plain_found (Some (Script l)) h = record { line = h.line; bytes = h.bytes; short = h.short }
  plain_found (Some (Start party things)) h = absurd h
  plain_found (Some (Turn party)) h = absurd h

  pub plain_kept : SpellsKept bytes → (l : DriveLine) × SpellsDrive d bytes l
  plain_kept h = (Script h.0, plain_found (Some (Script h.0)) h.1)

  pub plain_only : (o : Option DriveLine) → (word ≡ codes "turn" → ⊥) → (word ≡ start_word d → ⊥) → IfNone o ((l : ScriptLine) → SpellsLine bytes l → ⊥) → IfNone o (SpellsNoDrive d bytes)
  plain_only (Some l) no_turn no_start h = tt
  plain_only None no_turn no_start h = none
    where
      none : SpellsNoDrive d bytes
      none (Script l) s = h l (record { line = s.line; bytes = s.bytes; short = s.short })
      none (Start party things) s = no_start (head_is word (start_word d) ts (party ∷ things) (sym words ∙ split_drive d bytes (Start party things) s))
      none (Turn party) s = no_turn (head_is word (codes "turn") ts (party ∷ []) (sym words ∙ split_drive d bytes (Turn party) s))
