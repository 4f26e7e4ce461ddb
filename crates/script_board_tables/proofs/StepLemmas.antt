-- Steps of calls on cells.
use Rattle.std.proofs.Common.{◌≡◌, ℕ, ◌+◌, ◌<◌, ◌≤◌, Bool, true, false, List, [], ◌∷◌, ◌++◌, length, map, Option, Some, None, refl, sym, ap, ◌∙◌, subst, arith}
use Rattle.std.specs.Prelude.{◌==◌, nat_le, slice_get, slice_set}
use Rattle.std.proofs.lemmas.Bool.{le-leb}
use Rattle.std.proofs.lemmas.List.{length-append}
use Rattle.board_cell_model.specs.declared.access.Access.{Access}
use Rattle.board_cell_model.specs.declared.access.Access.TheVariants as access
use Rattle.board_cell_model.specs.OwedAccesses as model
use Rattle.board_cell_model.specs.OwedAccesses.{hear, is_finished, owed_of, owed_read, owed_write, reading_from, to_read, to_write, to_table}
use Rattle.board_model.specs.declared.answer.Reply.{Reply}
use Rattle.board_model.specs.declared.answer.Reply.TheVariants as reply
use Rattle.board_model.specs.Memory.{IsStanding, after_access}
use Rattle.board_model.specs.Parties.{is_done, owed, reading}
use Rattle.board_model.specs.Replies.{latest, none_put, published_at, with_fetched, word_put}
use Rattle.board_model.specs.Requests as requests
use Rattle.board_model.specs.Requests.{Lending, Published, Request}
use Rattle.board_model.specs.Things.{Standing, with_at, with_name}
use Rattle.board_model.specs.TypeTable.{value_type_of, value_words}
use Rattle.script_board_rows.specs.CellCalls.{Hears, OwesRead, kept_of}
use Rattle.script_board_rows.specs.declared.cell_calls.Reading.{Reading}
use Rattle.script_board_tables.specs.declared.calls.TableCall.{TableCall}
use Rattle.script_board_tables.specs.declared.calls.Fetch.{Fetch}
use Rattle.script_board_tables.specs.declared.calls.Look.{Look}
use Rattle.script_board_tables.specs.declared.calls.Lent.{Lent}
use Rattle.script_board_tables.specs.declared.calls.Publishing.{Publishing}
use Rattle.script_board_tables.specs.declared.calls.BoardCall.TheVariants as call
use Rattle.script_board_tables.specs.declared.step.Stepped.TheVariants.{GoesOn, Ends}
use Rattle.script_board_tables.specs.declared.tables.BoardTables.{BoardTables}
use Rattle.script_board_tables.specs.Calls.{IsFill, IsGet, IsUpdate, table_in}
use Rattle.script_board_tables.specs.Steps.{Asks, Steps, WritesNext}
use Rattle.script_board_tables.specs.Tables.{Has, memory_of, published_of, standing_of}

-- ---- counting

longer : (so_far : List Access) (a : Access) → length (so_far ++ a ∷ []) ≡ length so_far + 1
longer so_far a = length-append so_far (a ∷ [])

-- the first access is there
one_more : (so_far : List Access) (a : Access) → length so_far ≡ 0 → nat_le 1 (length (so_far ++ a ∷ [])) ≡ true
one_more so_far a e = let h = longer so_far a in le-leb 1 (length (so_far ++ a ∷ [])) (omega (arith, e, h))

not_below : (m n : ℕ) → n < m → nat_le m n ≡ false
not_below m n h = grind (arith, h)

-- ---- loans

-- the loan becomes a write handle, and its words are forgotten
abbrev pub given : List ℕ → List ℕ → List ℕ → Standing → Standing
given party loan handle s = record s { tables = with_name s.tables party loan handle; loans = with_at s.loans party loan None }

-- the loan has these words
abbrev pub worded : List ℕ → List ℕ → List (Option ℕ) → Standing → Standing
worded party loan words s = record s { loans = with_at s.loans party loan (Some words) }

-- ---- gets

more_heard : (w : ℕ) (r : model.Reading) (so_far : List Access) (b k v : ℕ) → reading_from w r (map model.heard (so_far ++ access.Read b k v ∷ [])) ≡ hear w (reading_from w r (map model.heard so_far)) v
more_heard w r [] b k v = refl
more_heard w r (a ∷ so_far) b k v = more_heard w (hear w r (model.heard a)) so_far b k v

unfinished : (x : model.Reading) (r : Reading) → Some r ≡ kept_of x → is_finished x ≡ false
unfinished model.opening r e = refl
unfinished (model.trying c words) r e = refl
unfinished (model.finished c words) r e = absurd cc

finished : (x : model.Reading) → None ≡ kept_of x → is_finished x ≡ true
finished model.opening e = absurd cc
finished (model.trying c words) e = absurd cc
finished (model.finished c words) e = refl

module _ (old : BoardTables) (f : Fetch) (r : Reading) (word value : ℕ) (owes : OwesRead f.shape r word) (stands : slice_get (memory_of old f.board) word ≡ Some value) where
  abbrev a_read : Access
  a_read = access.Read f.board word value

  module _ (q : Request) (so_far : List Access) (g : IsGet f q) (come : kept_of (reading f.shape.words so_far) ≡ Some r) where
    read_owed : owed_of a_read ≡ owed q so_far
    read_owed = sym (owes f.board (reading f.shape.words so_far) come) ∙ ap (λ (x : Request). owed x so_far) (sym g.request)

    heard_more : (after : Option Reading) → Hears f.shape r value after → after ≡ kept_of (reading f.shape.words (so_far ++ a_read ∷ []))
    heard_more after hears = hears (reading f.shape.words so_far) come ∙ ap kept_of (sym (more_heard f.shape.words model.opening so_far f.board word value))

    is_done_get : is_done q (so_far ++ a_read ∷ []) ≡ is_finished (reading f.shape.words (so_far ++ a_read ∷ []))
    is_done_get = ap (λ (x : Request). is_done x (so_far ++ a_read ∷ [])) g.request

  pub reads_on : (party : List ℕ) (after : Reading) → Hears f.shape r value (Some after) → Steps old old party (call.Get f r) (GoesOn a_read (call.Get f after))
  reads_on party after hears = λ q so_far g come. record {
    owed = read_owed q so_far g come;
    stands = stands;
    goes_on = is_done_get q so_far g come ∙ unfinished (reading f.shape.words (so_far ++ a_read ∷ [])) after (heard_more q so_far g come (Some after) hears);
    request = g;
    come = sym (heard_more q so_far g come (Some after) hears);
    has = record { standing = refl; memory = refl; lists = refl };
  }

  pub reads_last : (new : BoardTables) (party : List ℕ) (told : Reply) → Hears f.shape r value None → ((q : Request) → IsGet f q → Asks old new party q told) → Steps old new party (call.Get f r) (Ends a_read told)
  reads_last new party told hears asks = λ q so_far g come. (
      let a = asks q g in
      record {
        owed = read_owed q so_far g come;
        stands = stands;
        done = is_done_get q so_far g come ∙ finished (reading f.shape.words (so_far ++ a_read ∷ [])) (heard_more q so_far g come None hears);
        reply = a.reply;
        has = a.has;
      })

-- ---- looks

pub looks : (old : BoardTables) (party : List ℕ) (l : Look) (value : ℕ) (fresh : Bool) → slice_get (memory_of old l.board) l.shape.first ≡ Some value → reply.Fresh fresh ≡ reply.Fresh (l.generation == length (published_of old l.board l.entry))
    → Steps old old party (call.Fresh l) (Ends (access.Read l.board l.shape.first value) (reply.Fresh fresh))
looks old party l value fresh stands told = λ q so_far g come. record {
  owed = ap (λ (x : Request). owed x so_far) (sym g.request);
  stands = stands;
  done = ap (λ (x : Request). is_done x (so_far ++ access.Read l.board l.shape.first value ∷ [])) g.request ∙ one_more so_far (access.Read l.board l.shape.first value) come;
  reply = rw g.request told;
  has = rw g.request (record { standing = refl; memory = refl; lists = refl });
}

-- ---- publications

module _ (old mid : BoardTables) (p : Publishing) (a : Access) (writes : WritesNext p a) (stands : IsStanding (memory_of old) a) (has : Has mid (standing_of old) (after_access (memory_of old) a) (published_of old)) where
  abbrev next : Publishing
  next = record p { written = p.written + 1 }

  module _ (q : Request) (so_far : List Access) (u : IsUpdate p q) (come : p.written ≡ length so_far) where
    update_owed : owed_of a ≡ owed q so_far
    update_owed =
        writes ∙ ap (λ (ws : List ℕ). owed_write p.board p.shape p.generation ws p.written) u.words
        ∙ ap (λ (k : ℕ). owed_write p.board p.shape p.generation (value_words u.value) k) come ∙ ap (λ (x : Request). owed x so_far) (sym u.request)

    is_done_update : is_done q (so_far ++ a ∷ []) ≡ nat_le (length p.words + 1) (length (so_far ++ a ∷ []))
    is_done_update = ap (λ (x : Request). is_done x (so_far ++ a ∷ [])) u.request ∙ ap (λ (ws : List ℕ). nat_le (length ws + 1) (length (so_far ++ a ∷ []))) (sym u.words)

  pub updates_on : (party : List ℕ) → p.written < length p.words → Steps old mid party (call.Update p) (GoesOn a (call.Update next))
  updates_on party below = λ q so_far u come. (
      let n = longer so_far a in
      record {
        owed = update_owed q so_far u come;
        stands = stands;
        goes_on = is_done_update q so_far u come ∙ not_below (length p.words + 1) (length (so_far ++ a ∷ [])) (omega (arith, n, come, below));
        request = record { type = u.type; handle = u.handle; value = u.value; words = u.words; request = u.request };
        come = omega (arith, n, come);
        has = has;
      })

  pub updates_last : (new : BoardTables) (party : List ℕ) → length p.words ≤ p.written → Has new (standing_of mid) (memory_of mid) (published_at (published_of mid) p.board p.entry p.words) → Steps old new party (call.Update p) (Ends a reply.Done)
  updates_last new party whole published = λ q so_far u come. (
      let n = longer so_far a in
      record {
        owed = update_owed q so_far u come;
        stands = stands;
        done = is_done_update q so_far u come ∙ le-leb (length p.words + 1) (length (so_far ++ a ∷ [])) (omega (arith, n, come, whole));
        reply = rw u.request refl;
        has = rw u.request (record {
          standing = published.standing ∙ has.standing;
          memory = published.memory ∙ has.memory;
          lists = published.lists ∙ ap (λ (l : Published). published_at l p.board p.entry p.words) has.lists ∙ ap (λ (ws : List ℕ). published_at (published_of old) p.board p.entry ws) u.words;
        });
      })

  module _ (loan handle : List ℕ) where
    module _ (q : Request) (so_far : List Access) (u : IsFill p loan handle q) (come : p.written ≡ length so_far) where
      fill_owed : owed_of a ≡ owed q so_far
      fill_owed =
          writes ∙ ap (λ (ws : List ℕ). owed_write p.board p.shape p.generation ws p.written) u.words
          ∙ ap (λ (k : ℕ). owed_write p.board p.shape p.generation (value_words u.value) k) come ∙ ap (λ (x : Request). owed x so_far) (sym u.request)

      is_done_fill : is_done q (so_far ++ a ∷ []) ≡ nat_le (length p.words + 1) (length (so_far ++ a ∷ []))
      is_done_fill = ap (λ (x : Request). is_done x (so_far ++ a ∷ [])) u.request ∙ ap (λ (ws : List ℕ). nat_le (length ws + 1) (length (so_far ++ a ∷ []))) (sym u.words)

    pub fills_on : (party : List ℕ) → p.written < length p.words → Steps old mid party (call.Fill p loan handle) (GoesOn a (call.Fill next loan handle))
    fills_on party below = λ q so_far u come. (
        let n = longer so_far a in
        record {
          owed = fill_owed q so_far u come;
          stands = stands;
          goes_on = is_done_fill q so_far u come ∙ not_below (length p.words + 1) (length (so_far ++ a ∷ [])) (omega (arith, n, come, below));
          request = record { type = u.type; put_words = u.put_words; value = u.value; words = u.words; request = u.request };
          come = omega (arith, n, come);
          has = has;
        })

    pub fills_last : (then new : BoardTables) (party : List ℕ) → length p.words ≤ p.written → Has then (standing_of mid) (memory_of mid) (published_at (published_of mid) p.board p.entry p.words)
        → Has new (given party loan handle (standing_of then)) (memory_of then) (published_of then) → Steps old new party (call.Fill p loan handle) (Ends a reply.Done)
    fills_last then new party whole published back = λ q so_far u come. (
        let n = longer so_far a in
        record {
          owed = fill_owed q so_far u come;
          stands = stands;
          done = is_done_fill q so_far u come ∙ le-leb (length p.words + 1) (length (so_far ++ a ∷ [])) (omega (arith, n, come, whole));
          reply = rw u.request refl;
          has = rw u.request (record {
            standing = back.standing ∙ ap (given party loan handle) (published.standing ∙ has.standing);
            memory = back.memory ∙ published.memory ∙ has.memory;
            lists = back.lists ∙ published.lists ∙ ap (λ (l : Published). published_at l p.board p.entry p.words) has.lists ∙ ap (λ (ws : List ℕ). published_at (published_of old) p.board p.entry ws) u.words;
          });
        })

-- ---- calls on loans

module _ (old mid : BoardTables) (l : Lent) (i word place : ℕ) (is : place ≡ model.spare_at l.shape l.generation + i) (has : Has mid (standing_of old) (after_access (memory_of old) (access.Write l.board place word)) (published_of old)) where
  abbrev a_put : Access
  a_put = access.Write l.board place word

  pub puts : (new : BoardTables) (party : List ℕ) (put_words : List (Option ℕ)) → put_words ≡ slice_set l.words i (Some word)
      → Has new (worded party l.loan put_words (standing_of mid)) (memory_of mid) (published_of mid) → Steps old new party (call.Put l i word) (Ends a_put reply.Done)
  puts new party put_words are changed = λ q so_far g come. record {
    owed = ap (λ (n : ℕ). to_write l.board n word) is ∙ ap (λ (x : Request). owed x so_far) (sym g.request);
    stands = tt;
    done = ap (λ (x : Request). is_done x (so_far ++ a_put ∷ [])) g.request ∙ one_more so_far a_put come;
    reply = rw g.request refl;
    has = rw g.request (record {
      standing = changed.standing ∙ ap (worded party l.loan put_words) has.standing ∙ ap (λ (ws : List (Option ℕ)). worded party l.loan ws (standing_of old)) are;
      memory = changed.memory ∙ has.memory;
      lists = changed.lists ∙ has.lists;
    });
  }

module _ (old mid : BoardTables) (l : Lent) (has : Has mid (standing_of old) (after_access (memory_of old) (access.Write l.board l.shape.first (l.generation + 1))) (published_of old)) where
  abbrev a_raise : Access
  a_raise = access.Write l.board l.shape.first (l.generation + 1)

  pub publishes : (then new : BoardTables) (party : List ℕ) (words : List ℕ) → words ≡ map word_put l.words
      → Has then (standing_of mid) (memory_of mid) (published_at (published_of mid) l.board l.entry words)
      → Has new (given party l.loan l.handle (standing_of then)) (memory_of then) (published_of then) → Steps old new party (call.Publish l) (Ends a_raise reply.Done)
  publishes then new party words are published back = λ q so_far g come. record {
    owed = ap (λ (x : Request). owed x so_far) (sym g.request);
    stands = tt;
    done = ap (λ (x : Request). is_done x (so_far ++ a_raise ∷ [])) g.request ∙ one_more so_far a_raise come;
    reply = rw g.request refl;
    has = rw g.request (record {
      standing = back.standing ∙ ap (given party l.loan l.handle) (published.standing ∙ has.standing);
      memory = back.memory ∙ published.memory ∙ has.memory;
      lists = back.lists ∙ published.lists ∙ ap (λ (x : Published). published_at x l.board l.entry words) has.lists ∙ ap (λ (ws : List ℕ). published_at (published_of old) l.board l.entry ws) are;
    });
  }

pub lends : (old new : BoardTables) (party : List ℕ) (l : Lent) (words : List (Option ℕ)) → words ≡ none_put l.shape.words
    → Has new (record (standing_of old) { tables = with_name (standing_of old).tables party l.handle l.loan; loans = with_at (standing_of old).loans party l.loan (Some words) }) (memory_of old) (published_of old)
    → Steps old new party (call.Loan l) (Ends access.Table reply.Done)
lends old new party l words are changed = λ q so_far g come. record {
  owed = ap (λ (x : Request). owed x so_far) (sym g.request);
  stands = tt;
  done = ap (λ (x : Request). is_done x (so_far ++ access.Table ∷ [])) g.request ∙ one_more so_far access.Table come;
  reply = rw g.request refl;
  has = rw g.request (record {
    standing = changed.standing ∙ ap (λ (ws : List (Option ℕ)). record (standing_of old) { tables = with_name (standing_of old).tables party l.handle l.loan; loans = with_at (standing_of old).loans party l.loan (Some ws) }) are;
    memory = changed.memory;
    lists = changed.lists;
  });
}

pub discards : (old new : BoardTables) (party : List ℕ) (l : Lent) → Has new (given party l.loan l.handle (standing_of old)) (memory_of old) (published_of old) → Steps old new party (call.Discard l) (Ends access.Table reply.Done)
discards old new party l changed = λ q so_far g come. record {
  owed = ap (λ (x : Request). owed x so_far) (sym g.request);
  stands = tt;
  done = ap (λ (x : Request). is_done x (so_far ++ access.Table ∷ [])) g.request ∙ one_more so_far access.Table come;
  reply = rw g.request refl;
  has = rw g.request changed;
}

-- ---- calls on the tables

pub tells : (old new : BoardTables) (party : List ℕ) (t : TableCall) (told : Reply) → Asks old new party (requests.table (table_in t)) told → Steps old new party (call.Table t) (Ends access.Table told)
tells old new party t told asks = λ q so_far g come. record {
  owed = ap (λ (x : Request). owed x so_far) (sym g);
  stands = tt;
  done = ap (λ (x : Request). is_done x (so_far ++ access.Table ∷ [])) g ∙ one_more so_far access.Table come;
  reply = rw g asks.reply;
  has = rw g asks.has;
}

-- ---- what a get tells

-- it is told the last value, which is kept under its name
pub fetches : (old new : BoardTables) (party : List ℕ) (f : Fetch) (words : List ℕ) (generation : ℕ)
    → ((g : requests.Fetch) → f.value_type ≡ value_type_of g.type → Has new (with_fetched (standing_of old) party g (latest (published_of old f.board f.entry)) (length (published_of old f.board f.entry)) f.value) (memory_of old) (published_of old))
    → words ≡ latest (published_of new f.board f.entry) → generation ≡ length (published_of new f.board f.entry)
    → (q : Request) → IsGet f q → Asks old new party q (reply.Got f.value_type words generation)
fetches old new party f words generation kept last count q g =
    let fetch : requests.Fetch = record { board = f.board; entry = f.entry; shape = f.shape; type = g.type; handle = g.handle; name = f.value } in
    let h = kept fetch g.type_is in
    let list = ap (λ (l : Published). l f.board f.entry) h.lists in
    let words_are : words ≡ latest (published_of old f.board f.entry) = last ∙ ap latest list in
    let count_is : generation ≡ length (published_of old f.board f.entry) = count ∙ ap (λ (vs : List (List ℕ)). length vs) list in
    subst (λ (x : Request). Asks old new party x (reply.Got f.value_type words generation)) (sym g.request)
    (record { reply = λ i. reply.Got (g.type_is i) (words_are i) (count_is i); has = h })
