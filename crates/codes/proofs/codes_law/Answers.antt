use Rattle.codes.specs.Codes.{Reads, str, IsShort, read_str, list, IsList, read_list, long_str, IsLong, read_long_str, long_list, IsLongList, read_long_list}
use Rattle.codes.specs.Reading.{word_reads, str_reads, list_reads, long_word_reads, long_str_reads, long_list_reads, reads_separates}
use Rattle.codes.proofs.codes_law.Goals as goal

pub returns : goal.returns
returns c =
    let texts : Reads (list str) (IsList IsShort) (read_list read_str) = list_reads str IsShort read_str str_reads in
    let nested : Reads (list (list str)) (IsList (IsList IsShort)) (read_list (read_list read_str)) = list_reads (list str) (IsList IsShort) (read_list read_str) texts in
    let long_texts : Reads (long_list long_str) (IsLongList IsLong) (read_long_list read_long_str) = long_list_reads long_str IsLong read_long_str long_str_reads in
    record {
      word = word_reads;
      str = str_reads;
      list = texts;
      nested = nested;
      words_differ = reads_separates word_reads;
      strs_differ = reads_separates str_reads;
      lists_differ = reads_separates texts;
      nested_differ = reads_separates nested;
      long_word = long_word_reads;
      long_str = long_str_reads;
      long_list = long_texts;
      long_words_differ = reads_separates long_word_reads;
      long_strs_differ = reads_separates long_str_reads;
      long_lists_differ = reads_separates long_texts;
    }
