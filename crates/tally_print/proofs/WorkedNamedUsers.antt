-- Worked lines and rows of users that have names, computed by the definitions.
use Rattle.std.proofs.Common.{◌≡◌, [], ◌∷◌, ◌++◌, List, map, ℕ, Option, Some, None, refl}
use Rattle.std.specs.Fmt.{digits}
use Rattle.std.specs.Prelude.{codes}
use Rattle.csv.specs.Writing.{escaped, fields_text, is_blank}
use Rattle.tally_usage.specs.Names.{names_of}
use Rattle.tally_usage.specs.declared.usage.Usage.{Usage}
use Rattle.tally_usage.specs.declared.user.UidRow.{UidRow}
use Rattle.tally_print.specs.NamedUsers.{named_user_fields, named_user_header, named_user_line, named_user_table_text, named_users_text, user_word}
use Rattle.tally_print.specs.UsageTable.{sum_fields}
use Rattle.tally_print.specs.UsageText.{columns, named_total_line}

-- four calls: a minute elapsed, 90 ticks of cpu
abbrev four : Usage
four = record { count = 4; real = 6000; cpu = 90; io = 10; mem_cpu = 4500 }

abbrev of_user : ℕ → UidRow
of_user uid = record { uid = uid; usage = four }

-- a name, one that is longer than its column, one that begins with an escape and has a comma, and one with a quote
abbrev names : ℕ → Option (List ℕ)
names uid =
    names_of ((1000, codes "ann") ∷ (1001, codes "wilhelmina-charlotte") ∷ (1002, 27 ∷ codes "x,y") ∷ (0, codes "a\"b") ∷ []) uid

-- a name is printed up to its first zero, and a number has no blanks
words : user_word (Some (97 ∷ 0 ∷ 98 ∷ [])) 7 ∷ user_word (Some (195 ∷ 169 ∷ [])) 7 ∷ user_word None 7 ∷ user_word None 4294967295 ∷ [] ≡ codes "a" ∷ codes "??" ∷ codes "7" ∷ codes "4294967295" ∷ []
unfolding digits
words = refl

-- a name stands in place of its number, whole; a byte that does not print is a question mark; a number without a name stands itself
lines : map (λ uid. named_user_line names (of_user uid)) (1000 ∷ 1001 ∷ 1002 ∷ 0 ∷ 7 ∷ []) ≡
    codes "ann               4         1.00re         0.02cp          2avio         50k\n"
    ∷ codes "wilhelmina-charlotte        4         1.00re         0.02cp          2avio         50k\n"
    ∷ codes "?x,y              4         1.00re         0.02cp          2avio         50k\n"
    ∷ codes "a\"b               4         1.00re         0.02cp          2avio         50k\n"
    ∷ codes "7                 4         1.00re         0.02cp          2avio         50k\n" ∷ []
unfolding named_user_line columns digits
lines = refl

-- the total stands first, also where there is no user
text : named_users_text names (of_user 7 ∷ of_user 1000 ∷ []) four ≡ codes "total             4         1.00re         0.02cp          2avio         50k\n"
    ++ codes "7                 4         1.00re         0.02cp          2avio         50k\n"
    ++ codes "ann               4         1.00re         0.02cp          2avio         50k\n"
unfolding named_total_line named_user_line columns digits
text = refl

text_of_none : named_users_text names [] four ≡ codes "total             4         1.00re         0.02cp          2avio         50k\n"
unfolding named_total_line columns digits
text_of_none = refl

-- the names of the columns
header : named_user_header ≡ codes "uid" ∷ codes "name" ∷ codes "calls" ∷ codes "real_ticks" ∷ codes "cpu_ticks" ∷ codes "io" ∷ codes "mem_cpu" ∷ []
unfolding named_user_header
header = refl

-- the name stands after the number, and is empty where the number has none
rows : map (λ uid. named_user_fields names (of_user uid)) (1000 ∷ 1002 ∷ 7 ∷ []) ≡ (codes "1000" ∷ codes "ann" ∷ codes "4" ∷ codes "6000" ∷ codes "90" ∷ codes "10" ∷ codes "4500" ∷ [])
    ∷ (codes "1002" ∷ codes "?x,y" ∷ codes "4" ∷ codes "6000" ∷ codes "90" ∷ codes "10" ∷ codes "4500" ∷ [])
    ∷ (codes "7" ∷ [] ∷ codes "4" ∷ codes "6000" ∷ codes "90" ∷ codes "10" ∷ codes "4500" ∷ []) ∷ []
unfolding named_user_fields sum_fields digits
rows = refl

-- a name with a comma or a quote stands in quotes, and a quote in it twice
table : named_user_table_text names (of_user 0 ∷ of_user 7 ∷ of_user 1000 ∷ of_user 1002 ∷ []) ≡ codes "uid,name,calls,real_ticks,cpu_ticks,io,mem_cpu\n" ++ codes "0,\"a\"\"b\",4,6000,90,10,4500\n"
    ++ codes "7,,4,6000,90,10,4500\n" ++ codes "1000,ann,4,6000,90,10,4500\n" ++ codes "1002,\"?x,y\",4,6000,90,10,4500\n"
unfolding named_user_header named_user_fields sum_fields digits escaped fields_text is_blank
table = refl

table_of_none : named_user_table_text names [] ≡ codes "uid,name,calls,real_ticks,cpu_ticks,io,mem_cpu\n"
unfolding named_user_header fields_text is_blank
table_of_none = refl
