-- No token holds a space, so the bytes of a line are cut into its tokens.
use Rattle.std.proofs.Common.{◌≡◌, ℕ, ◌<◌, arith, Bool, true, false, List, [], ◌∷◌, ◌++◌, length, Option, Some, None, refl, sym, subst}
use Rattle.std.specs.Prelude.{codes, decimal}
use Rattle.std.specs.List.{flat_map, AllByRecursion}
use Rattle.std.proofs.lemmas.List.Concat.{flat_map-cons}
use Rattle.board_event_model.specs.declared.kind.EventKind.{EventKind}
use Rattle.board_event_model.specs.declared.kind.EventKind.TheVariants as kind
use Rattle.board_event_model.specs.declared.call.WaitMode.{WaitMode}
use Rattle.board_event_model.specs.declared.call.WaitMode.TheVariants as mode
use Rattle.board_model.specs.declared.attributes.Attribute.{Attribute}
use Rattle.board_model.specs.declared.tables.Limits.{Limits}
use Rattle.board_model.specs.declared.tables.NewLimits.{NewLimits}
use Rattle.board_model.specs.declared.value.AddedEntry.{AddedEntry}
use Rattle.board_model.specs.declared.value.Key.{Key}
use Rattle.board_model.specs.declared.value.Key.TheVariants as key
use Rattle.board_model.specs.declared.value.Value.{Value}
use Rattle.board_model.specs.declared.value.Value.TheVariants as value
use Rattle.board_model.specs.declared.value.KeyType.{KeyType}
use Rattle.board_model.specs.declared.value.KeyType.TheVariants as key_type
use Rattle.board_model.specs.declared.value.ValueType.{ValueType}
use Rattle.board_model.specs.declared.value.ValueType.TheVariants as type
use Rattle.board_model.specs.declared.line.Call.{Call}
use Rattle.board_model.specs.declared.line.Call.TheVariants as call
use Rattle.board_model.specs.declared.line.Line.{Line}
use Rattle.board_model.specs.declared.line.Line.TheVariants as line
use Rattle.script_model.specs.declared.line.EventRequest.{EventRequest}
use Rattle.script_model.specs.declared.line.EventRequest.TheVariants as request
use Rattle.script_model.specs.declared.line.ScriptLine.{ScriptLine}
use Rattle.script_model.specs.declared.line.ScriptLine.TheVariants as script_line
use Rattle.script_model.specs.ScriptGrammar.{IsEventRequest, IsScriptLine, count_text, is_event_name, kind_text, mode_text, request_tokens, script_spell, script_tokens}
use Rattle.board_model.specs.LineGrammar.{is_name, is_attribute_key, key_text, key_type_text, value_text, value_type_text, limit_tokens, limits_tokens, new_limits_tokens, pair_tokens, needed_key_tokens, entry_tokens, name_tokens, call_tokens, tokens, spell, IsNumber, IsNumberIfAny, IsNameIfAny, IsAddedEntry, IsAttribute, AreLimits, AreNewLimits, IsCall, IsKey, IsValue, IsLine}
use Rattle.script_grammar.specs.TokenReading.{split_tokens}
use Rattle.script_grammar.proofs.SplitLemmas.{IsFree, split_free, free_number, free_visible, free_name, free_event_name, free_joined}

-- ---- board lines

abbrev IsPlain : List ℕ → Type 0
IsPlain text = IsFree 32 text

abbrev ArePlain : List (List ℕ) → Type 0
ArePlain ts = AllByRecursion IsPlain ts

plain_number : (n : ℕ) → IsNumber n → IsPlain (decimal n)
plain_number n h = free_number 32 refl n h

plain_name : (n : List ℕ) → is_name n ≡ true → IsPlain n
plain_name n h = free_name 32 refl n h

plain_key_type : (k : KeyType) → IsPlain (key_type_text k)
plain_key_type key_type.U64 = refl
plain_key_type key_type.F8 = refl

plain_value_type : (v : ValueType) → IsPlain (value_type_text v)
plain_value_type type.Bool = refl
plain_value_type type.U64 = refl
plain_value_type type.Q4 = refl

plain_key : (k : Key) → IsKey k → IsPlain (key_text k)
plain_key (key.U64 n) h = plain_number n h
plain_key (key.F8 text) h = free_visible 32 8 refl text h

plain_value : (v : Value) → IsValue v → IsPlain (value_text v)
plain_value (value.Bool true) h = refl
plain_value (value.Bool false) h = refl
plain_value (value.U64 n) h = plain_number n h
plain_value (value.Q4 a b c d) h = free_joined 32 44 refl (decimal a ∷ decimal b ∷ decimal c ∷ decimal d ∷ []) (plain_number a h.0, (plain_number b h.1, (plain_number c h.2, (plain_number d h.3, tt))))

plain_append : (as_ bs : List (List ℕ)) → ArePlain as_ → ArePlain bs → ArePlain (as_ ++ bs)
plain_append [] bs ha hb = hb
plain_append (a ∷ as_) bs ha hb = (ha.0, plain_append as_ bs ha.1 hb)

plain_each : {A : Type 0} (Is : A → Type 0) (f : A → List (List ℕ)) → ((x : A) → Is x → ArePlain (f x)) → (xs : List A) → AllByRecursion Is xs → ArePlain (flat_map f xs)
plain_each Is f one [] h = tt
plain_each Is f one (x ∷ xs) h = subst ArePlain (sym (flat_map-cons f x xs)) (plain_append (f x) (flat_map f xs) (one x h.0) (plain_each Is f one xs h.1))

plain_limit : (word : List ℕ) → IsPlain word → (n : Option ℕ) → IsNumberIfAny n → ArePlain (limit_tokens word n)
plain_limit word w None h = tt
plain_limit word w (Some n) h = (w, (plain_number n h, tt))

plain_limits : (l : Limits) → AreLimits l → ArePlain (limits_tokens l)
plain_limits l h = plain_append (limit_tokens (codes "readers") l.max_readers) (limit_tokens (codes "nodes") l.max_nodes) (plain_limit (codes "readers") refl l.max_readers h.readers) (plain_limit (codes "nodes") refl l.max_nodes h.nodes)

plain_new_limits : (l : NewLimits) → AreNewLimits l → ArePlain (new_limits_tokens l)
plain_new_limits l h = plain_append (limits_tokens l.shared) (limit_tokens (codes "writers") l.max_writers) (plain_limits l.shared h.shared) (plain_limit (codes "writers") refl l.max_writers h.writers)

plain_pair : (word : List ℕ) → IsPlain word → (a : Attribute) → IsAttribute a → ArePlain (pair_tokens word a)
plain_pair word w a h = (w, (free_visible 32 64 refl a.key h.key, (free_visible 32 256 refl a.value h.value, tt)))

plain_needed : (k : List ℕ) → is_attribute_key k ≡ true → ArePlain (needed_key_tokens k)
plain_needed k h = (refl, (free_visible 32 64 refl k h, tt))

plain_entry : (e : AddedEntry) → IsAddedEntry e → ArePlain (entry_tokens e)
plain_entry e h = (refl, (plain_key e.key h.key, (plain_value e.value h.value, tt)))

plain_name_if_any : (v : Option (List ℕ)) → IsNameIfAny v → ArePlain (name_tokens v)
plain_name_if_any None h = tt
plain_name_if_any (Some v) h = (plain_name v h, tt)

plain_one : (word a : List ℕ) → IsPlain word → is_name a ≡ true → ArePlain (word ∷ a ∷ [])
plain_one word a w h = (w, (plain_name a h, tt))

plain_two : (word a b : List ℕ) → IsPlain word → is_name a ≡ true → is_name b ≡ true → ArePlain (word ∷ a ∷ b ∷ [])
plain_two word a b w ha hb = (w, (plain_name a ha, (plain_name b hb, tt)))

plain_call : (c : Call) → IsCall c → ArePlain (call_tokens c)
plain_call (call.Create f n k l attrs es) h = (
  refl,
  (
    plain_name f h.0,
    (
      free_visible 32 255 refl n h.1,
      (
        plain_key_type k,
        plain_append (new_limits_tokens l) (flat_map (pair_tokens (codes "attr")) attrs ++ flat_map entry_tokens es) (plain_new_limits l h.2)
            (plain_append (flat_map (pair_tokens (codes "attr")) attrs) (flat_map entry_tokens es)
            (plain_each IsAttribute (pair_tokens (codes "attr")) (plain_pair (codes "attr") refl) attrs h.3.each)
            (plain_each IsAddedEntry entry_tokens plain_entry es h.4)),
      ),
    ),
  ),
)
plain_call (call.Open f n k l needs) h = (
  refl,
  (
    plain_name f h.0,
    (
      free_visible 32 255 refl n h.1,
      (
        plain_key_type k,
        plain_append (limits_tokens l) (flat_map (pair_tokens (codes "need")) needs.pairs ++ flat_map needed_key_tokens needs.keys) (plain_limits l h.2)
            (plain_append (flat_map (pair_tokens (codes "need")) needs.pairs) (flat_map needed_key_tokens needs.keys)
            (plain_each IsAttribute (pair_tokens (codes "need")) (plain_pair (codes "need") refl) needs.pairs h.3.pairs.each)
            (plain_each (λ k. is_attribute_key k ≡ true) needed_key_tokens plain_needed needs.keys h.3.each)),
      ),
    ),
  ),
)
plain_call (call.Reader r f) h = plain_two (codes "reader") r f refl h.0 h.1
plain_call (call.Writer w f) h = plain_two (codes "writer") w f refl h.0 h.1
plain_call (call.Entry x r k t) h = (refl, (plain_name x h.0, (plain_name r h.1, (plain_key k h.2, (plain_value_type t, tt)))))
plain_call (call.EntryMut m w k t) h = (refl, (plain_name m h.0, (plain_name w h.1, (plain_key k h.2, (plain_value_type t, tt)))))
plain_call (call.Get x v) h = (refl, (plain_name x h.0, plain_name_if_any v h.1))
plain_call (call.Fresh x v) h = plain_two (codes "fresh") x v refl h.0 h.1
plain_call (call.Update m v) h = (refl, (plain_name m h.0, (plain_value v h.1, tt)))
plain_call (call.Loan l m) h = plain_two (codes "loan") l m refl h.0 h.1
plain_call (call.Discard l m) h = plain_two (codes "discard") l m refl h.0 h.1
plain_call (call.Put l i w) h = (refl, (plain_name l h.0, (plain_number i h.1, (plain_number w h.2, tt))))
plain_call (call.Publish l m) h = plain_two (codes "publish") l m refl h.0 h.1
plain_call (call.Fill l m v) h = (refl, (plain_name l h.0, (plain_name m h.1, (plain_value v h.2, tt))))
plain_call (call.Keys f) h = plain_one (codes "keys") f refl h
plain_call (call.Nodes f) h = plain_one (codes "nodes") f refl h
plain_call (call.Info f) h = plain_one (codes "info") f refl h
plain_call (call.Id t) h = plain_one (codes "id") t refl h
plain_call (call.Gen m) h = plain_one (codes "gen") m refl h

plain_line : (l : Line) → IsLine l → ArePlain (tokens l)
plain_line (line.Begin p c) h = (refl, (plain_name p h.0, plain_call c h.1))
plain_line (line.Step p) h = plain_one (codes "step") p refl h
plain_line (line.Release p t) h = plain_two (codes "drop") p t refl h.0 h.1
plain_line (line.Abandon p) h = plain_one (codes "abandon") p refl h
plain_line (line.Words b) h = (refl, (plain_number b h, tt))

some_tokens : (l : Line) → 0 < length (tokens l)
some_tokens (line.Begin p c) = omega arith
some_tokens (line.Step p) = omega arith
some_tokens (line.Release p t) = omega arith
some_tokens (line.Abandon p) = omega arith
some_tokens (line.Words b) = omega arith

-- the tokens of a board line's bytes are the line's tokens
pub split_spell : (l : Line) → IsLine l → split_tokens (spell l) ≡ tokens l
split_spell l h = split_free 32 refl (tokens l) (some_tokens l) (plain_line l h)

-- ---- lines of events

plain_event : (n : List ℕ) → is_event_name n ≡ true → IsPlain n
plain_event n h = free_event_name 32 refl n h

plain_kind : (k : EventKind) → IsPlain (kind_text k)
plain_kind kind.Bits = refl
plain_kind kind.Queue = refl

plain_count : (many : Bool) → IsPlain (count_text many)
plain_count true = refl
plain_count false = refl

plain_mode : (m : WaitMode) → IsPlain (mode_text m)
plain_mode mode.Try = refl
plain_mode mode.Timed = refl
plain_mode mode.Block = refl

plain_request : (q : EventRequest) → IsEventRequest q → ArePlain (request_tokens q)
plain_request (request.ListenBits e event max) h = (refl, (plain_name e h.0, (refl, (plain_event event h.1, (plain_number max (omega (arith, h.2)), tt)))))
plain_request (request.ListenQueue e event) h = (refl, (plain_name e h.0, (refl, (plain_event event h.1, tt))))
plain_request (request.Notifier n k event) h = (refl, (plain_name n h.0, (plain_kind k, (plain_event event h.1, tt))))
plain_request (request.Notify n id) h = (refl, (plain_name n h.0, (plain_number id h.1, tt)))
plain_request (request.Wait e many m) h = (refl, (plain_name e h, (plain_count many, (plain_mode m, tt))))

-- the tokens of the bytes of any line of a script
pub split_script : (l : ScriptLine) → IsScriptLine l → split_tokens (script_spell l) ≡ script_tokens l
split_script (script_line.Board l) h = split_spell l h
split_script (script_line.Event p q) h = split_free 32 refl (codes "begin" ∷ p ∷ request_tokens q) (omega arith) (refl, (plain_name p h.0, plain_request q h.1))
split_script (script_line.Expire p) h = split_free 32 refl (codes "expire" ∷ p ∷ []) (omega arith) (refl, (plain_name p h, tt))
