mod AllRead
